-- A table keeps what a plant keeps. Assumes nothing.
use Rattle.std.specs.Prelude.{Some, None, Option}
use Rattle.plant.specs.Meaning.{Lawful}
use Rattle.plant.specs.Unfit.{unfit_lawful}
use Rattle.table.specs.TableLawful.{table_lawful}
use Rattle.table.specs.Standing.{loaded, means}
use Rattle.table.specs.declared.table.Rows.{Rows}
use Rattle.table.specs.declared.table.Table.{Table}

loaded_lawful : (r : Option Rows) → Lawful (loaded r)
loaded_lawful (Some r) = table_lawful r.states.now r.edges.now r.promises r.granted
loaded_lawful None = unfit_lawful

pub means_lawful : (x : Table) → Lawful (means x)
means_lawful x = loaded_lawful x.rows

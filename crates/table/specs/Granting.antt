-- The rows that are granted, as the table keeps them. Assumes nothing.
use Rattle.std.specs.Prelude.{◌≡◌, ℕ, List, Ok, Err, Result}
use Rattle.faults.specs.declared.fault.Fault.{Fault}
use Rattle.faults.specs.declared.causes.PlantCause.{PlantCause}
use Rattle.table.specs.Loads.{Refused}
use Rattle.table.specs.declared.rows.StateRow.{StateRow}
use Rattle.table.specs.declared.rows.EdgeRow.{EdgeRow}
use Rattle.table.specs.declared.table.Rows.{Rows}

-- these very rows, which are granted since every value of their type is; or the refusal
abbrev pub GrantedAs : List StateRow → List EdgeRow → ℕ → Result Rows (Fault PlantCause) → Type 0
GrantedAs states edges p (Ok r) = (r.states.now ≡ states) × (r.edges.now ≡ edges) × (r.promises ≡ p)
GrantedAs states edges p (Err f) = Refused states edges p f.cause f.place

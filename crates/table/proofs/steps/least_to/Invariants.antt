use Rattle.std.proofs.Common.{take}
use Rattle.plant.specs.Meaning.{Least}
use Rattle.table.specs.Rows.{has_edge}
use Rattle.table.proofs.steps.least_to.Given as goal

abbrev pub invariant-loop-e : goal.invariant-loop-e
invariant-loop-e l = Least (has_edge (take l.e-index l.edges) l.s) l.t l.best

use Rattle.std.proofs.Common.{ℕ, ◌<◌, get_or}
use Rattle.table.specs.Rows.{no_edge}
use Rattle.table.specs.Loads.{GoodEdge}
use Rattle.table.proofs.checks.first_bad_edge.Given as goal

abbrev pub invariant-loop-e : goal.invariant-loop-e
invariant-loop-e l = (k : ℕ) → k < l.e → GoodEdge l.n (get_or l.edges k no_edge)

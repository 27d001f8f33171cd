use Rattle.std.proofs.Common.{ℕ, ◌<◌, get_or}
use Rattle.table.specs.Rows.{no_row}
use Rattle.table.specs.Loads.{GoodState}
use Rattle.table.proofs.checks.first_bad_state.Given as goal

abbrev pub invariant-loop-s : goal.invariant-loop-s
invariant-loop-s l = (k : ℕ) → k < l.s → GoodState l.p (get_or l.rows k no_row)

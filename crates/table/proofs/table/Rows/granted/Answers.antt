use Rattle.std.proofs.Common.{arith}
use Rattle.table.proofs.table.Rows.granted.Goals as goal

pub returns-in-Some : goal.returns-in-Some
returns-in-Some c = rw c.at-in-Some.ensures ((omega arith, omega arith, omega arith), c.in-Some.ensures)

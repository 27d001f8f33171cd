use Rattle.std.proofs.Common.{arith}
use Rattle.std.proofs.lemmas.Bool.Decides.{nat_tests}
use Rattle.table.proofs.Past.{promise_past}
use Rattle.table.proofs.questions.TablePlant.fulfils.Goals as goal

pub returns-else-k-promises : goal.returns-else-k-promises
returns-else-k-promises c = let e = promise_past c.args.self.now.rows c.args.s c.args.k (omega (arith, c.promises.ensures, c.if-k-promises.false)) in grind (arith, nat_tests)

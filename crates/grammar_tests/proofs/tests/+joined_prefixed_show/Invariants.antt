use Rattle.std.proofs.Common.{◌+◌, ◌*◌, max}
use Rattle.logic.proofs.formula.Formula.TheLaws.{the_size}
use Rattle.grammar_tests.proofs.tests.+joined_prefixed_show.Given as goal

abbrev pub decreases-show : goal.decreases-show
decreases-show l = 2 * the_size l.f.now

abbrev pub decreases-prefixed : goal.decreases-prefixed
decreases-prefixed l = 2 * the_size l.a.now + 1

abbrev pub decreases-joined : goal.decreases-joined
decreases-joined l = 2 * max (the_size l.a.now) (the_size l.b.now) + 1

use Rattle.std.proofs.Common.{ap, ◌∙◌}
use Rattle.std.proofs.lemmas.List.{take_all}
use Rattle.protocol.specs.Numbers.{value_of_digits}
use Rattle.protocol.proofs.numbers.value_of.Goals as goal

pub returns : goal.returns
returns c = c.loop-b.invariant.1 ∙ ap value_of_digits (take_all c.loop-b.b-index c.args.digits.now c.loop-b-test.false)

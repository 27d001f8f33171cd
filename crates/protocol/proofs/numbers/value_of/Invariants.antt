use Rattle.std.proofs.Common.{◌≡◌, ◌≤◌, length, take}
use Rattle.protocol.specs.Numbers.{value_of_digits}
use Rattle.protocol.proofs.Digits.{most}
use Rattle.protocol.proofs.numbers.value_of.Given as goal

abbrev pub invariant-loop-b : goal.invariant-loop-b
invariant-loop-b l = (length l.digits ≤ 4) × (l.n ≡ value_of_digits (take l.b-index l.digits)) × (l.n ≤ most l.b-index)

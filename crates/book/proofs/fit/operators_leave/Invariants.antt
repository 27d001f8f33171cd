use Rattle.std.proofs.Common.{◌≡◌, drop}
use Rattle.logic.specs.Basics.{ops, spent}
use Rattle.book.specs.Rules.{rules_of, together}
use Rattle.book.proofs.fit.operators_leave.Given as goal

abbrev pub invariant-loop-slot : goal.invariant-loop-slot
invariant-loop-slot l = spent (ops (together (rules_of (drop l.slot-index l.slots)))) l.left ≡ spent (ops (together (rules_of l.slots))) l.room

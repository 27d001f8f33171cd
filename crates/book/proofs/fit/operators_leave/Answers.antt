use Rattle.book.proofs.Looks.{ops_end}
use Rattle.book.proofs.fit.operators_leave.Goals as goal

pub returns : goal.returns
returns c = ops_end c.args.room c.args.slots.now c.loop-slot.slot-index c.loop-slot.left c.loop-slot.invariant c.loop-slot-test.false

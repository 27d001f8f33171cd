use Rattle.std.proofs.Common.{◌∙◌}
use Rattle.book.proofs.Looks.{any_occurs}
use Rattle.book.proofs.fit.stands_with.Goals as goal

pub returns : goal.returns
returns c = c.any_has.ensures ∙ any_occurs c.args.g c.args.slots.now

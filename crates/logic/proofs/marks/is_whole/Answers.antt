use Rattle.logic.proofs.Words.{decides_whole}
use Rattle.logic.proofs.marks.is_whole.Goals as goal

pub returns : goal.returns
returns c = decides_whole c.args.w

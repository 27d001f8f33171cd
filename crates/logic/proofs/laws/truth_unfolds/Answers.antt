use Rattle.logic.proofs.Unfold.{unfolding_laws}
use Rattle.logic.proofs.laws.truth_unfolds.Goals as goal

pub returns : goal.returns
returns c = unfolding_laws

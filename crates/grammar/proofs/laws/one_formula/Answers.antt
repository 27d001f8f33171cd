use Rattle.grammar.proofs.Unique.{one_formula_lem}
use Rattle.grammar.proofs.laws.one_formula.Goals as goal

pub returns : goal.returns
returns c = one_formula_lem

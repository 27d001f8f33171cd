-- The rules that slots hold. Assumes nothing.
use Rattle.std.specs.Prelude.{ℕ, Bool, false, List, [], ◌∷◌, map, Some, None, Option}
use Rattle.logic.specs.Form.{Form, form_of}
use Rattle.logic.specs.Basics.{all, occurs}
use Rattle.logic.specs.declared.formula.Formula.{Formula}

abbrev pub rule_of : Option Formula → Option Form
rule_of None = None
rule_of (Some f) = Some (form_of f)

abbrev pub rules_of : List (Option Formula) → List (Option Form)
rules_of ss = map rule_of ss

-- the rules that stand, in the order of their slots
abbrev pub standing : List (Option Form) → List Form
standing [] = []
standing (None ∷ rs) = standing rs
standing (Some f ∷ rs) = f ∷ standing rs

-- the standing rules as one formula
abbrev pub together : List (Option Form) → Form
together rs = all (standing rs)

-- a rule stands there and has the signal g
abbrev pub rule_has : ℕ → Option Form → Bool
rule_has g None = false
rule_has g (Some f) = occurs f g

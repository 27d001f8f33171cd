-- One more slot looked at. Assumes nothing.
use Rattle.std.proofs.Common.{◌≡◌, ℕ, ◌+◌, ◌<◌, ◌≤◌, Bool, ◌||◌, List, [], ◌∷◌, length, get_or, drop, Some, None, Option, refl, sym, ap, ◌∙◌}
use Rattle.std.proofs.lemmas.List.{at_drop_more, at_drop_all}
use Rattle.std.specs.List.{list_any}
use Rattle.logic.specs.declared.formula.Formula.{Formula}
use Rattle.logic.specs.Form.{form_of}
use Rattle.logic.specs.Basics.{occurs, ops, spent}
use Rattle.book.specs.Rules.{rule_has, rule_of, rules_of, together}
use Rattle.book.proofs.Counting.{spent_more, spent_none, spent_zero}

pub rest : {R : Type 0} (F : List (Option Formula) → R) (ss : List (Option Formula)) (i : ℕ) (s : Option Formula) → i < length ss → s ≡ get_or ss i s → F (drop i ss) ≡ F (s ∷ drop (i + 1) ss)
rest F ss i s h e = at_drop_more F ss i s h ∙ ap (λ (x : Option Formula). F (x ∷ drop (i + 1) ss)) (sym e)

-- ---- whether a signal occurs
pub any_occurs : (g : ℕ) (ss : List (Option Formula)) → list_any (λ s. rule_has g (rule_of s)) ss ≡ occurs (together (rules_of ss)) g
any_occurs g [] = refl
any_occurs g (None ∷ ss) = any_occurs g ss
any_occurs g (Some f ∷ ss) = ap (λ (b : Bool). occurs (form_of f) g || b) (any_occurs g ss)

-- ---- what operators leave
abbrev room_of : List (Option Formula) → ℕ → Option ℕ
room_of ss n = spent (ops (together (rules_of ss))) n

module _ (room : ℕ) (ss : List (Option Formula)) (i left : ℕ) (inv : room_of (drop i ss) left ≡ room_of ss room) where
  module _ (s : Option Formula) (h : i < length ss) (at : s ≡ get_or ss i s) where
    opening : (x : Option Formula) → s ≡ x → room_of ss room ≡ room_of (x ∷ drop (i + 1) ss) left
    opening x is = sym inv ∙ rest (λ (xs : List (Option Formula)). room_of xs left) ss i s h at ∙ ap (λ (y : Option Formula). room_of (y ∷ drop (i + 1) ss) left) is

    pub ops_none : (f : Formula) → s ≡ Some f → None ≡ spent (ops (form_of f)) left → None ≡ room_of ss room
    ops_none f is e = spent_none (ops (form_of f)) (ops (together (rules_of (drop (i + 1) ss)))) left e ∙ sym (opening (Some f) is)

    pub ops_some : (f : Formula) → s ≡ Some f → (less : ℕ) → Some less ≡ spent (ops (form_of f)) left → (l : ℕ) → l ≡ less → room_of (drop (i + 1) ss) l ≡ room_of ss room
    ops_some f is less e l d =
        ap (λ (n : ℕ). room_of (drop (i + 1) ss) n) d
        ∙ spent_more (ops (form_of f)) (ops (together (rules_of (drop (i + 1) ss)))) left less e
        ∙ sym (opening (Some f) is)

    pub ops_skip : s ≡ None → (l : ℕ) → l ≡ left → room_of (drop (i + 1) ss) l ≡ room_of ss room
    ops_skip is l d = ap (λ (n : ℕ). room_of (drop (i + 1) ss) n) d ∙ sym (opening None is)

  pub ops_end : length ss ≤ i → Some left ≡ room_of ss room
  ops_end h = sym (spent_zero left) ∙ sym (at_drop_all (λ (xs : List (Option Formula)). room_of xs left) ss i h) ∙ inv

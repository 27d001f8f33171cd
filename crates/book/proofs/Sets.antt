-- What putting a rule in, or taking one out, does to the basics. Assumes nothing.
use Rattle.std.proofs.Common.{◌≡◌, ℕ, zero, suc, ◌+◌, ◌<◌, ◌≤◌, Bool, true, false, ◌&&◌, ◌||◌, List, [], ◌∷◌, length, get_or, set, Some, None, Option, sym, refl, ap, ◌∙◌, arith}
use Rattle.std.proofs.lemmas.Bool.{ltb-true, lt-ltb, and_parts, and_from}
use Rattle.logic.specs.Form.{Form, yes_form, no_form, signal, not_form, next_form, always, eventually, and_form, or_form, implies, until}
use Rattle.logic.specs.Basics.{occurs, ops, below, signals, basics, tally}
use Rattle.book.specs.Rules.{together}
use Rattle.book.proofs.Tallies.{tally_same, tally_le}

abbrev Rules : Type 0
Rules = List (Option Form)

clash : {X : Type 0} (f : Form) → ◌≡◌ {A = Option Form} (Some f) None → X
clash f e = let z : ◌≡◌ {A = ℕ} 0 1 = cc in absurd (omega arith)

or_swap : (a b c : Bool) → (a || (b || c)) ≡ (b || (a || c))
or_swap true true c = refl
or_swap true false c = refl
or_swap false true c = refl
or_swap false false c = refl

occurs_set : (g : ℕ) (rs : Rules) (i : ℕ) (f : Form) → i < length rs → get_or rs i None ≡ None → occurs (together (set rs i (Some f))) g ≡ (occurs f g || occurs (together rs) g)
occurs_set g [] i f h e = absurd (omega arith)
occurs_set g (None ∷ rs) zero f h e = refl
occurs_set g (Some k ∷ rs) zero f h e = clash k e
occurs_set g (None ∷ rs) (suc i) f h e = occurs_set g rs i f (omega arith) e
occurs_set g (Some k ∷ rs) (suc i) f h e = ap (λ (b : Bool). occurs k g || b) (occurs_set g rs i f (omega arith) e) ∙ or_swap (occurs k g) (occurs f g) (occurs (together rs) g)

ops_set : (rs : Rules) (i : ℕ) (f : Form) → i < length rs → get_or rs i None ≡ None → ops (together (set rs i (Some f))) ≡ ops f + ops (together rs)
ops_set [] i f h e = absurd (omega arith)
ops_set (None ∷ rs) zero f h e = refl
ops_set (Some k ∷ rs) zero f h e = clash k e
ops_set (None ∷ rs) (suc i) f h e = ops_set rs i f (omega arith) e
ops_set (Some k ∷ rs) (suc i) f h e = let r = ops_set rs i f (omega arith) e in omega arith

-- the basics of the standing rules and one more, where the new rule's signals pass the test p, below sixteen, and n are its operators
pub basics_set : (rs : Rules) (i n : ℕ) (p : ℕ → Bool) (f : Form) → i < length rs → get_or rs i None ≡ None → n ≡ ops f → ((g : ℕ) → g < 16 → p g ≡ occurs f g) → basics (together (set rs i (Some f))) ≡ tally 16 (λ g. p g || occurs (together rs) g) + (n + ops (together rs))
unfolding signals
basics_set rs i n p f h e same test =
    let a = tally_same 16 (occurs (together (set rs i (Some f)))) (λ g. p g || occurs (together rs) g)
    (λ g l. occurs_set g rs i f h e ∙ ap (λ (b : Bool). b || occurs (together rs) g) (sym (test g l))) in
    let b = ops_set rs i f h e in
    omega arith

or_right : (a b c : Bool) → (b ≡ true → c ≡ true) → (a || b) ≡ true → (a || c) ≡ true
or_right true b c h e = refl
or_right false b c h e = h e

or_more : (a b : Bool) → b ≡ true → (a || b) ≡ true
or_more true b h = refl
or_more false b h = h

occurs_clear : (g : ℕ) (rs : Rules) (i : ℕ) → occurs (together (set rs i None)) g ≡ true → occurs (together rs) g ≡ true
occurs_clear g [] i e = e
occurs_clear g (None ∷ rs) zero e = e
occurs_clear g (Some k ∷ rs) zero e = or_more (occurs k g) (occurs (together rs) g) e
occurs_clear g (None ∷ rs) (suc i) e = occurs_clear g rs i e
occurs_clear g (Some k ∷ rs) (suc i) e = or_right (occurs k g) (occurs (together (set rs i None)) g) (occurs (together rs) g) (occurs_clear g rs i) e

ops_clear : (rs : Rules) (i : ℕ) → ops (together (set rs i None)) ≤ ops (together rs)
ops_clear [] i = omega arith
ops_clear (None ∷ rs) zero = omega arith
ops_clear (Some k ∷ rs) zero = omega arith
ops_clear (None ∷ rs) (suc i) = ops_clear rs i
ops_clear (Some k ∷ rs) (suc i) = let r = ops_clear rs i in omega arith

pub basics_clear : (rs : Rules) (i : ℕ) → basics (together (set rs i None)) ≤ basics (together rs)
unfolding signals
basics_clear rs i =
    let a = tally_le 16 (occurs (together (set rs i None))) (occurs (together rs)) (λ g. occurs_clear g rs i) in
    let b = ops_clear rs i in
    omega arith

-- ---- numbers of signals
both : (a b c d : Bool) → (a ≡ true → c ≡ true) → (b ≡ true → d ≡ true) → (a && b) ≡ true → (c && d) ≡ true
both a b c d h k e = let p = and_parts a b e in and_from c d (h p.0) (k p.1)

pub below_more : (f : Form) (n : ℕ) → below n f ≡ true → below (n + 1) f ≡ true
below_more yes_form n e = refl
below_more no_form n e = refl
below_more (signal k) n e = lt-ltb k (n + 1) (omega (arith, ltb-true k n e))
below_more (not_form f) n e = below_more f n e
below_more (next_form f) n e = below_more f n e
below_more (always f) n e = below_more f n e
below_more (eventually f) n e = below_more f n e
below_more (and_form f g) n e = both _ _ _ _ (below_more f n) (below_more g n) e
below_more (or_form f g) n e = both _ _ _ _ (below_more f n) (below_more g n) e
below_more (implies f g) n e = both _ _ _ _ (below_more f n) (below_more g n) e
below_more (until f g) n e = both _ _ _ _ (below_more f n) (below_more g n) e

pub below_clear : (rs : Rules) (i n : ℕ) → below n (together rs) ≡ true → below n (together (set rs i None)) ≡ true
below_clear [] i n e = e
below_clear (None ∷ rs) zero n e = e
below_clear (Some f ∷ rs) zero n e = (and_parts (below n f) (below n (together rs)) e).1
below_clear (None ∷ rs) (suc i) n e = below_clear rs i n e
below_clear (Some f ∷ rs) (suc i) n e = both _ _ _ _ (λ x. x) (below_clear rs i n) e

pub below_set : (rs : Rules) (i n : ℕ) (f : Form) → below n f ≡ true → below n (together rs) ≡ true → below n (together (set rs i (Some f))) ≡ true
below_set [] i n f b e = e
below_set (None ∷ rs) zero n f b e = and_from _ _ b e
below_set (Some k ∷ rs) zero n f b e = and_from _ _ b (and_parts (below n k) (below n (together rs)) e).1
below_set (None ∷ rs) (suc i) n f b e = below_set rs i n f b e
below_set (Some k ∷ rs) (suc i) n f b e = both _ _ _ _ (λ x. x) (below_set rs i n f b) e

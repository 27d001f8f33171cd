-- Each step of a count. Assumes nothing.
use Rattle.std.proofs.Common.{◌≡◌, ℕ, ◌+◌, ◌-◌, ◌<◌, ◌≤◌, Bool, true, false, cond, leb, Some, None, Option, sym, ap, ◌∙◌, ⊎_elim, arith}
use Rattle.std.proofs.lemmas.Bool.{le-leb, lt-leb, cases_lt, cond-true, cond-false}
use Rattle.logic.specs.Basics.{spent, tally}
use Rattle.book.proofs.Tallies.{tally_more, tally_mono}

enough : (a r : ℕ) → a ≤ r → spent a r ≡ Some (r - a)
enough a r h = cond-true (leb a r) _ _ (le-leb a r h)

scant : (a r : ℕ) → r < a → spent a r ≡ None
scant a r h = cond-false (leb a r) _ _ (lt-leb a r h)

clash : {X : Type 0} (n : ℕ) → ◌≡◌ {A = Option ℕ} (Some n) None → X
clash n e = let z : ◌≡◌ {A = ℕ} 0 1 = cc in absurd (omega arith)

some_same : (m n : ℕ) → ◌≡◌ {A = Option ℕ} (Some m) (Some n) → m ≡ n
some_same m n e = cc

-- what a room leaves says how large it was
pub left_is : (a r l : ℕ) → Some l ≡ spent a r → (a ≤ r) × (l ≡ r - a)
left_is a r l e = ⊎_elim (λ h. clash l (e ∙ scant a r h)) (λ h. (h, some_same l (r - a) (e ∙ enough a r h))) (cases_lt r a)

pub none_is : (a r : ℕ) → None ≡ spent a r → r < a
none_is a r e = ⊎_elim (λ h. h) (λ h. clash (r - a) (sym (e ∙ enough a r h))) (cases_lt r a)

-- one formula after another
pub spent_more : (a b r l : ℕ) → Some l ≡ spent a r → spent b l ≡ spent (a + b) r
spent_more a b r l e =
    let h = left_is a r l e in
    ⊎_elim
    (λ k. let k' : r < a + b = omega (arith, h) in scant b l k ∙ sym (scant (a + b) r k'))
    (λ k. let k' : a + b ≤ r = omega (arith, h) in let q : l - b ≡ r - (a + b) = omega (arith, h) in enough b l k ∙ ap (λ (n : ℕ). Some n) q ∙ sym (enough (a + b) r k'))
    (cases_lt l b)

pub spent_none : (a b r : ℕ) → None ≡ spent a r → None ≡ spent (a + b) r
spent_none a b r e = let h = none_is a r e in sym (scant (a + b) r (omega arith))

pub spent_zero : (r : ℕ) → spent 0 r ≡ Some r
spent_zero r = let h : 0 ≤ r = omega arith in let e : r - 0 ≡ r = omega arith in enough 0 r h ∙ ap (λ (n : ℕ). Some n) e

-- ---- the signals, one after another
module _ (p : ℕ → Bool) (g room left : ℕ) (inv : tally g p + left ≡ room) where
  pub signal_over : g < 16 → true ≡ p g → left ≡ 0 → false ≡ leb (tally 16 p) room
  signal_over h e z =
      let a = tally_more g p ∙ ap (λ (b : Bool). tally g p + cond b 1 0) (sym e) in
      let k : g + 1 ≤ 16 = omega arith in
      let b = tally_mono (g + 1) 16 p k in
      sym (lt-leb (tally 16 p) room (omega arith))

  pub signal_yes : true ≡ p g → (left ≡ 0 → ⊥) → (l : ℕ) → l ≡ left - 1 → tally (g + 1) p + l ≡ room
  signal_yes e z l d = let a = tally_more g p ∙ ap (λ (b : Bool). tally g p + cond b 1 0) (sym e) in let n : 0 < left = omega arith in omega arith

  pub signal_no : false ≡ p g → (l : ℕ) → l ≡ left → tally (g + 1) p + l ≡ room
  signal_no e l d = let a = tally_more g p ∙ ap (λ (b : Bool). tally g p + cond b 1 0) (sym e) in omega arith

  pub signal_end : g ≡ 16 → true ≡ leb (tally 16 p) room
  signal_end h = let e = ap (λ (n : ℕ). tally n p) h in sym (le-leb (tally 16 p) room (omega arith))

pub signal_start : (p : ℕ → Bool) (room : ℕ) → tally 0 p + room ≡ room
unfolding tally
signal_start p room = omega arith

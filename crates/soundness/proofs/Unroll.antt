-- What unrolls like until, and is not put off for ever, is until. Assumes nothing.
use Rattle.std.proofs.Common.{◌≡◌, ℕ, zero, suc, ◌+◌, ◌-◌, ◌≤◌, Bool, true, false, not, ◌&&◌, ◌||◌, Decides, sym, refl, ap, ◌∙◌, subst, inl, inr, arith}
use Rattle.std.proofs.lemmas.Bool.{false≢true, both_ways, and_parts, and_from, or_cases, or_left, or_right, not-true}
use Rattle.std.proofs.lemmas.Bool.Decides.{Decides-at, Decides-not}
use Rattle.logic.proofs.Unfold.{until_earlier}
use Rattle.logic.specs.Truth.{Until}
use Rattle.tableau.specs.Machine.{same}

pub same_true : (x y : Bool) → same x y ≡ true → x ≡ y
same_true true y e = sym e
same_true false true e = absurd (false≢true e)
same_true false false e = refl

pub from_same : (x y : Bool) → x ≡ y → same x y ≡ true
from_same true y e = sym e
from_same false true e = absurd (false≢true e)
from_same false false e = refl

pub not_not : (x : Bool) → not (not x) ≡ x
not_not true = refl
not_not false = refl

pub not_and : (x y : Bool) → not (x && y) ≡ (not x || not y)
not_and true y = refl
not_and false y = refl

pub decides_implies : {P Q : Type 0} (x y : Bool) → Decides x P → Decides y Q → Decides (not x || y) (P → Q)
decides_implies true y d k = (λ e p. k.0 e, λ h. k.1 (h (d.0 refl)))
decides_implies false y d k = (λ e p. absurd (false≢true (d.1 p)), λ h. refl)

module _ (p q u : ℕ → Bool) (P Q : ℕ → Type 0) (dp : (j : ℕ) → Decides (p j) (P j)) (dq : (j : ℕ) → Decides (q j) (Q j))
    (unrolls : (j : ℕ) → u j ≡ (q j || (p j && u (suc j)))) (often : (j : ℕ) → (i : ℕ) × (j ≤ i) × ((not (u i) || q i) ≡ true)) where
  found : (d i j : ℕ) → j + d ≡ i → (not (u i) || q i) ≡ true → u j ≡ true → Until P Q j
  found zero i j s h e =
      let here : j ≡ i = omega arith in
      let at : (not (u j) || q j) ≡ true = ap (λ (x : ℕ). not (u x) || q x) here ∙ h in
      elim (or_cases (not (u j)) (q j) at) [
        | inl n ↦ absurd (both_ways (u j) (not-true (u j) n) e)
        | inr k ↦ (j, omega arith, (dq j).0 k, (λ i low high. absurd (omega arith)))
      ]
  found (suc d) i j s h e = elim (or_cases (q j) (p j && u (suc j)) (sym (unrolls j) ∙ e)) [
    | inl k ↦ (j, omega arith, (dq j).0 k, (λ i low high. absurd (omega arith)))
    | inr k ↦ let r = and_parts (p j) (u (suc j)) k in until_earlier P Q j ((dp j).0 r.0) (found d i (suc j) (omega arith) h r.1)
  ]

  shown : (d j : ℕ) (v : Until P Q j) → j + d ≡ v.0 → u j ≡ true
  shown zero j v s =
      let here : v.0 ≡ j = omega arith in
      unrolls j ∙ or_left (q j) _ ((dq j).1 (subst Q here v.2))
  shown (suc d) j v s =
      unrolls j
      ∙ or_right (q j) _ (and_from (p j) (u (suc j)) ((dp j).1 (v.3 j (omega arith) (omega arith)))
      (shown d (suc j) (v.0, omega arith, v.2, (λ i low high. v.3 i (omega arith) high)) (omega arith)))

  pub until_right : (j : ℕ) → Decides (u j) (Until P Q j)
  until_right j =
      let r = often j in
      let late = r.1 in (
        (λ e. found (r.0 - j) r.0 j (omega arith) r.2 e),
        (λ v. let l = v.1 in shown (v.0 - j) j v (omega arith)),
      )

module _ (p u : ℕ → Bool) (P : ℕ → Type 0) (dp : (j : ℕ) → Decides (p j) (P j))
    (unrolls : (j : ℕ) → u j ≡ (p j && u (suc j))) (often : (j : ℕ) → (i : ℕ) × (j ≤ i) × ((u i || not (p i)) ≡ true)) where
  pub always_right : (j : ℕ) → Decides (u j) (Until (λ _. Unit {0}) (λ k. P k → ⊥) j → ⊥)
  always_right j =
      let U = Until (λ _. Unit {0}) (λ k. P k → ⊥) j in
      let e : Decides (not (u j)) U =
      until_right (λ _. true) (λ i. not (p i)) (λ i. not (u i)) (λ _. Unit {0}) (λ k. P k → ⊥) (λ i. (λ _. tt, λ _. refl)) (λ i. Decides-not (p i) (dp i))
      (λ i. ap not (unrolls i) ∙ not_and (p i) (u (suc i)))
      (λ i. let r = often i in (r.0, r.1, ap (λ (x : Bool). x || not (p r.0)) (not_not (u r.0)) ∙ r.2)) j in
      Decides-at (u j) (not (not (u j))) (sym (not_not (u j))) (Decides-not (not (u j)) e)

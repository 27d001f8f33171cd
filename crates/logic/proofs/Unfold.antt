-- Until, one step at a time. Assumes nothing.
use Rattle.std.proofs.Common.{ℕ, suc, ◌⊎◌, sym, subst, inl, inr, arith}
use Rattle.std.proofs.lemmas.Bool.{cases_eq}
use Rattle.logic.specs.Truth.{Until, Holds}
use Rattle.logic.specs.Laws.{Unfolding}

module _ (P Q : ℕ → Type 0) (j : ℕ) where
  pub until_now : Q j → Until P Q j
  until_now q = (j, omega arith, q, λ i low high. absurd (omega arith))

  -- one step more in front
  pub until_earlier : P j → Until P Q (suc j) → Until P Q j
  until_earlier p u =
      let late = u.1 in (
        u.0,
        omega arith,
        u.2,
        (λ i low high. elim (cases_eq i j) [ inl e ↦ subst P (sym e) p | inr apart ↦ u.3 i (omega arith) high ]),
      )

  -- now, or one step later
  pub until_later : Until P Q j → Q j ⊎ (P j × Until P Q (suc j))
  until_later u =
      let late = u.1 in
      elim (cases_eq u.0 j) [
        | inl e ↦ inl (subst Q e u.2)
        | inr apart ↦ inr (u.3 j (omega arith) (omega arith), (u.0, omega arith, u.2, (λ i low high. u.3 i (omega arith) high)))
      ]

  pub until_from : Q j ⊎ (P j × Until P Q (suc j)) → Until P Q j
  until_from (inl q) = until_now q
  until_from (inr r) = until_earlier r.0 r.1

-- at some later step
abbrev Some : (ℕ → Type 0) → ℕ → Type 0
Some Q j = Until (λ _. Unit {0}) Q j

some_later : (Q : ℕ → Type 0) (j : ℕ) → Some Q j → Q j ⊎ Some Q (suc j)
some_later Q j u = elim (until_later (λ _. Unit {0}) Q j u) [ inl q ↦ inl q | inr r ↦ inr r.1 ]

some_from : (Q : ℕ → Type 0) (j : ℕ) → Q j ⊎ Some Q (suc j) → Some Q j
some_from Q j (inl q) = until_now (λ _. Unit {0}) Q j q
some_from Q j (inr u) = until_earlier (λ _. Unit {0}) Q j tt u

pub unfolding_laws : Unfolding
unfolding_laws = record {
  until_unfolds = λ f g σ j. (until_later (λ i. Holds f σ i) (λ k. Holds g σ k) j, until_from (λ i. Holds f σ i) (λ k. Holds g σ k) j);
  eventually_until = λ f σ j. ((λ u. u), (λ u. u));
  eventually_unfolds = λ f σ j. (some_later (λ k. Holds f σ k) j, some_from (λ k. Holds f σ k) j);
  always_eventually = λ f σ j. ((λ h. h), (λ h. h));
  always_everywhere = λ f σ j. ((λ h k late n. h (k, late, n, λ i low high. tt)), (λ h u. h u.0 u.1 u.2));
  always_unfolds = λ f σ j. (
    (λ h. ((λ n. h (some_from (λ k. Holds f σ k → ⊥) j (inl n))), (λ u. h (some_from (λ k. Holds f σ k → ⊥) j (inr u))))),
    (λ h u. elim (some_later (λ k. Holds f σ k → ⊥) j u) [ inl n ↦ h.0 n | inr v ↦ h.1 v ]),
  );
  not_always = λ f σ j. ((λ h. h), (λ h. h));
}

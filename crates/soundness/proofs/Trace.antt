-- A run that cannot be denied a place in the states leaves a fair walk that cannot be denied. Assumes nothing.
use Rattle.std.proofs.Common.{◌≡◌, ℕ, suc, ◌+◌, ◌-◌, ◌<◌, ◌≤◌, true, sym, refl, ap, ◌∙◌, subst, inl, inr, arith}
use Rattle.std.proofs.lemmas.Bool.{cases_eq}
use Rattle.logic.specs.Runs.{Run}
use Rattle.logic.specs.Marks.{Obeys}
use Rattle.plant.specs.Meaning.{Meaning}
use Rattle.plant.specs.Walks.{Walk, Fair}
use Rattle.logic.specs.Laws.{Likely}
use Rattle.soundness.proofs.Likely.{sure, then, from_one_on, row_of}
use Rattle.soundness.proofs.Rings.{turning, Ring, ring_walks}

-- At j s: the run is in the state s at step j
pub record Trace (m : Meaning) (σ : Run) (At : ℕ → ℕ → Type 0) : Type 0 where
  pub total : (j : ℕ) → Likely ((s : ℕ) × At j s)
  pub exists : (j s : ℕ) → At j s → s < m.states
  pub starts : (s : ℕ) → At 0 s → m.start s ≡ true
  pub moves : (j s t : ℕ) → At j s → At (suc j) t → m.step s t ≡ true
  pub keeps : (k : ℕ) → k < m.promises → (j : ℕ) → Likely ((i : ℕ) × (j ≤ i) × ((s : ℕ) → At i s → m.fulfils s k ≡ true))
  pub obeys : (j s : ℕ) → At j s → Obeys (σ j) (m.marks s)

module _ (m : Meaning) (σ : Run) (At : ℕ → ℕ → Type 0) (trace : Trace m σ At) where
  abbrev Recurs : ℕ → Type 0
  Recurs s = (j : ℕ) → Likely ((i : ℕ) × (j ≤ i) × At i s)

  -- some state comes again and again
  recurs : Likely ((s : ℕ) × Recurs s)
  recurs deny =
      let Gone : ℕ → ℕ → Type 0 = λ s j. (i : ℕ) → j ≤ i → At i s → ⊥ in
      let gone : (s : ℕ) → s < m.states → Likely ((j : ℕ) × Gone s j) = λ s h no. deny (s, λ j none. no (j, λ i l a. none (i, l, a))) in
      from_one_on Gone (λ s i j l g n h. g n (omega arith)) m.states gone
      (λ r. trace.total r.0 (λ q. r.1 q.0 (trace.exists r.0 q.0 q.1) r.0 (omega arith) q.1))

  -- every promise is fulfilled from i on below j
  abbrev Done : ℕ → ℕ → ℕ → Type 0
  Done i k j = (n : ℕ) × (i ≤ n) × (n < j) × ((s : ℕ) → At n s → m.fulfils s k ≡ true)

  done : (i : ℕ) → Likely ((j : ℕ) × ((k : ℕ) → k < m.promises → Done i k j))
  done i =
      from_one_on (Done i) (λ k j n l d. let h = d.2 in (d.0, d.1, omega arith, d.3)) m.promises
      (λ k h. then (trace.keeps k h i) (λ r. sure (suc r.0, (r.0, r.1, omega arith, r.2))))

  -- the run is in s at i and again at j, and between them all is fulfilled
  module _ (s i j : ℕ) (less : i < j) (here : At i s) (there : At j s) (all : (k : ℕ) → k < m.promises → Done i k j) where
    abbrev Fixed : ℕ → ℕ → Type 0
    Fixed n t = At n t × (n ≡ i → t ≡ s) × (n ≡ j → t ≡ s)

    fixed : (n : ℕ) → Likely ((t : ℕ) × Fixed n t)
    fixed n = elim (cases_eq n i) [
      | inl e ↦ sure (s, (subst (λ (x : ℕ). At x s) (sym e) here, (λ _. refl), (λ _. refl)))
      | inr a ↦ elim (cases_eq n j) [
        | inl e ↦ sure (s, (subst (λ (x : ℕ). At x s) (sym e) there, (λ _. refl), (λ _. refl)))
        | inr b ↦ then (trace.total n) (λ r. sure (r.0, (r.1, (λ e. absurd (a e)), (λ e. absurd (b e)))))
      ]
    ]

    ring : (row : ℕ → ℕ) → ((n : ℕ) → n < suc j → Fixed n (row n)) → Ring m row i (j - i)
    ring row at = record {
      some = omega arith;
      begins = trace.starts (row 0) (at 0 (omega arith)).0;
      steps = λ n h. trace.moves n (row n) (row (suc n)) (at n (omega arith)).0 (at (suc n) (omega arith)).0;
      closes = λ n h.
          let last : suc n ≡ j = omega arith in
          let back : row (suc n) ≡ row i = (at (suc n) (omega arith)).2 last ∙ sym ((at i (omega arith)).1 refl) in
          ap (m.step (row n)) (sym back) ∙ trace.moves n (row n) (row (suc n)) (at n (omega arith)).0 (at (suc n) (omega arith)).0;
      fulfilled = λ k h.
          let d = all k h in
          let low = d.1 in
          let high = d.2 in
          (d.0, low, omega arith, d.3 (row d.0) (at d.0 (omega arith)).0);
    }

    lasso : Likely ((w : ℕ → ℕ) × Walk m w × Fair m w)
    lasso =
        then (row_of Fixed fixed (suc j))
        (λ r. let l = ring_walks m r.0 i (j - i) (ring r.0 r.1) in sure (turning r.0 i (j - i), l.0, l.1))

  pub walk_likely : Likely ((w : ℕ → ℕ) × Walk m w × Fair m w)
  walk_likely =
      then recurs
      (λ r. then (r.1 0)
      (λ p. then (done p.0)
      (λ d. then (r.1 (suc (p.0 + d.0)))
      (λ q.
      let late = q.1 in
      lasso r.0 p.0 q.0 (omega arith) p.2 q.2
      (λ k h. let x = d.1 k h in let b = x.2 in (x.0, x.1, omega arith, x.3))))))

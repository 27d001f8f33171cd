-- A run with a trace in each of two plants has one in their joint. Assumes nothing.
use Rattle.std.proofs.Common.{◌≡◌, ℕ, suc, ◌+◌, ◌-◌, ◌*◌, ◌/◌, ◌%◌, ◌<◌, ◌≤◌, true, ltb, sym, refl, ap, ◌∙◌, subst, ap₂, inl, inr, arith}
use Rattle.std.proofs.lemmas.Nat.{div-mul-add, mod-mul-add}
use Rattle.std.proofs.lemmas.Bool.{and_from, cases_lt, lt-ltb, le-ltb, cond-true, cond-false}
use Rattle.logic.specs.Runs.{Run}
use Rattle.logic.specs.Marks.{all_either, Obeys, agree, merged}
use Rattle.plant.specs.Meaning.{Meaning, Lawful}
use Rattle.plant.specs.Walks.{Runs}
use Rattle.plant.specs.Unfit.{unfit}
use Rattle.joint.specs.Pair.{pair, fits, joint}
use Rattle.joint.specs.PairLawful.{pair_exists}
use Rattle.logic.proofs.Words.{obeyed_agree, obeys_merged}
use Rattle.logic.specs.Laws.{Likely}
use Rattle.soundness.proofs.Likely.{sure, then}
use Rattle.soundness.proofs.Trace.{Trace}

-- a run of a plant has the trace of its walk
pub trace_of : (m : Meaning) → Lawful m → (σ : Run) → (r : Runs m σ) → Trace m σ (λ j s. r.walk j ≡ s)
trace_of m law σ r = record {
  total = λ j. sure (r.walk j, refl);
  exists = λ j s e. subst (λ (x : ℕ). x < m.states) e (law.steps_from (r.walk j) (r.walk (suc j)) (r.walks.steps j));
  starts = λ s e. ap m.start (sym e) ∙ r.walks.begins;
  moves = λ j s t e h. ap₂ m.step (sym e) (sym h) ∙ r.walks.steps j;
  keeps = λ k h j. let f = r.fair k h j in sure (f.0, f.1, (λ s e. ap (λ (x : ℕ). m.fulfils x k) (sym e) ∙ f.2));
  obeys = λ j s e. subst (λ (x : ℕ). Obeys (σ j) (m.marks x)) e (r.follows j);
}

module _ (a b : Meaning) (σ : Run) (A B : ℕ → ℕ → Type 0) (ta : Trace a σ A) (tb : Trace b σ B) where
  abbrev pub Both : ℕ → ℕ → Type 0
  Both j s = A j (s / b.states) × B j (s % b.states)

  both_exists : (j s : ℕ) → Both j s → s < a.states * b.states
  both_exists j s h = pair_exists s a.states b.states (ta.exists j (s / b.states) h.0) (tb.exists j (s % b.states) h.1)

  both_total : (j : ℕ) → Likely ((s : ℕ) × Both j s)
  both_total j =
      then (ta.total j)
      (λ x. then (tb.total j)
      (λ y.
      let n = b.states in
      let s = x.0 * n + y.0 in
      let l = tb.exists j y.0 y.1 in
      sure (s, (subst (A j) (sym (div-mul-add x.0 n y.0 l)) x.1, subst (B j) (sym (mod-mul-add x.0 n y.0 l)) y.1))))

  both_agree : (j s : ℕ) → Both j s → agree (a.marks (s / b.states)) (b.marks (s % b.states)) ≡ true
  both_agree j s h = obeyed_agree (σ j) (a.marks (s / b.states)) (b.marks (s % b.states)) (ta.obeys j (s / b.states) h.0) (tb.obeys j (s % b.states) h.1)

  both_keeps : (k : ℕ) → k < a.promises + b.promises → (j : ℕ) → Likely ((i : ℕ) × (j ≤ i) × ((s : ℕ) → Both i s → (pair a b).fulfils s k ≡ true))
  both_keeps k h j = elim (cases_lt k a.promises) [
    | inl l ↦
        then (ta.keeps k l j)
        (λ r. sure (
          r.0,
          r.1,
          (λ s at.
              and_from (ltb s (a.states * b.states)) _ (lt-ltb s (a.states * b.states) (both_exists r.0 s at))
              (cond-true (ltb k a.promises) _ _ (lt-ltb k a.promises l) ∙ r.2 (s / b.states) at.0)),
        ))
    | inr l ↦
        then (tb.keeps (k - a.promises) (omega arith) j)
        (λ r. sure (
          r.0,
          r.1,
          (λ s at.
              and_from (ltb s (a.states * b.states)) _ (lt-ltb s (a.states * b.states) (both_exists r.0 s at))
              (cond-false (ltb k a.promises) _ _ (le-ltb k a.promises l) ∙ r.2 (s % b.states) at.1)),
        ))
  ]

  both_obeys : (j s : ℕ) → Both j s → Obeys (σ j) ((pair a b).marks s)
  both_obeys j s h =
      let v = a.marks (s / b.states) in
      let w = b.marks (s % b.states) in
      let same : (pair a b).marks s ≡ _ =
      cond-true (ltb s (a.states * b.states)) (merged v w) all_either (lt-ltb s (a.states * b.states) (both_exists j s h)) in
      subst (Obeys (σ j)) (sym same) (obeys_merged (σ j) v w (both_agree j s h) (ta.obeys j (s / b.states) h.0) (tb.obeys j (s % b.states) h.1))

  pub pair_trace : Trace (pair a b) σ Both
  pair_trace = record {
    total = both_total;
    exists = both_exists;
    starts = λ s h. and_from (a.start (s / b.states)) _ (ta.starts (s / b.states) h.0) (and_from (b.start (s % b.states)) _ (tb.starts (s % b.states) h.1) (both_agree 0 s h));
    moves = λ j s t h g.
        and_from (a.step (s / b.states) (t / b.states)) _ (ta.moves j (s / b.states) (t / b.states) h.0 g.0)
        (and_from (b.step (s % b.states) (t % b.states)) _ (tb.moves j (s % b.states) (t % b.states) h.1 g.1) (both_agree (suc j) t g));
    keeps = both_keeps;
    obeys = both_obeys;
  }

  pub joint_trace : fits a b ≡ true → Trace (joint a b) σ Both
  joint_trace fit = subst (λ (m : Meaning). Trace m σ Both) (sym (cond-true (fits a b) (pair a b) unfit fit)) pair_trace

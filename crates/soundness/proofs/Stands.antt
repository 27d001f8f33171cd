-- A run that meets the rules has a trace in the machine. Assumes nothing.
use Rattle.std.proofs.Common.{◌≡◌, ℕ, zero, suc, ◌+◌, ◌^◌, ◌<◌, Bool, true, false, cond, ◌&&◌, ltb, List, [], ◌∷◌, length, get_or, sym, refl, ap, ◌∙◌, subst, inl, inr, arith}
use Rattle.std.proofs.lemmas.Bool.{both_ways, and_from, cases_Bool, cases_eq, lt-ltb, cond-true, cond-false}
use Rattle.logic.specs.Runs.{Run}
use Rattle.logic.specs.Marks.{mark, Obeys}
use Rattle.logic.specs.Form.{Form}
use Rattle.logic.specs.Truth.{Holds}
use Rattle.logic.specs.Basics.{occurs, rank, signals, basics, tally}
use Rattle.tableau.specs.Machine.{bit_on, holds, linked, kept, mark_of, machine}
use Rattle.tableau.specs.Small.{Small}
use Rattle.soundness.proofs.Sound.{Each}
use Rattle.soundness.proofs.Bits.{push, push_below, push_here, push_before}
use Rattle.tableau.specs.MachineLawful.{marked}
use Rattle.logic.specs.Laws.{Likely}
use Rattle.soundness.proofs.Likely.{sure, then}
use Rattle.soundness.proofs.Trace.{Trace}
use Rattle.soundness.proofs.Agrees.{Agrees, Signals, true_at, linked_at, Again, again, build}

-- ---- the bits of the signals
rank_zero : (f : Form) → rank f 0 ≡ 0
unfolding tally
rank_zero f = refl

rank_yes : (f : Form) (g : ℕ) → occurs f g ≡ true → rank f (suc g) ≡ rank f g + 1
unfolding tally
rank_yes f g e = ap (λ (x : ℕ). rank f g + x) (cond-true (occurs f g) 1 0 e)

rank_no : (f : Form) (g : ℕ) → occurs f g ≡ false → rank f (suc g) ≡ rank f g
unfolding tally
rank_no f g e = let z : rank f g + cond (occurs f g) 1 0 ≡ rank f g + 0 = ap (λ (x : ℕ). rank f g + x) (cond-false (occurs f g) 1 0 e) in omega arith

module _ (f : Form) (on : ℕ → Bool) where
  -- a number whose bits are the setting of the signals below n that occur
  abbrev Set : ℕ → ℕ → Type 0
  Set n s = (s < 2 ^ rank f n) × ((g : ℕ) → g < n → occurs f g ≡ true → (rank f g < rank f n) × (bit_on s (rank f g) ≡ on g))

  more_yes : (n s : ℕ) → Set n s → occurs f n ≡ true → Set (suc n) (push (rank f n) s (on n))
  more_yes n s h o =
      let k = rank f n in
      let e : rank f (suc n) ≡ k + 1 = rank_yes f n o in
      let t = push k s (on n) in (
        subst (λ (x : ℕ). t < 2 ^ x) (sym e) (push_below k s (on n) h.0),
        (λ g l og. elim (cases_eq g n) [
          | inl same ↦
              let r : rank f g ≡ k = ap (rank f) same in
              (omega arith, ap (bit_on t) r ∙ push_here k s (on n) h.0 ∙ ap on (sym same))
          | inr apart ↦
              let x = h.1 g (omega arith) og in
              let low = x.0 in
              (omega arith, push_before k s (on n) h.0 (rank f g) low ∙ x.1)
        ]),
      )

  more_no : (n s : ℕ) → Set n s → occurs f n ≡ false → Set (suc n) s
  more_no n s h o =
      let e : rank f (suc n) ≡ rank f n = rank_no f n o in (
        subst (λ (x : ℕ). s < 2 ^ x) (sym e) h.0,
        (λ g l og. elim (cases_eq g n) [
          | inl same ↦ absurd (both_ways (occurs f n) o (ap (occurs f) (sym same) ∙ og))
          | inr apart ↦
              let x = h.1 g (omega arith) og in
              let low = x.0 in
              (omega arith, x.1)
        ]),
      )

  setting : (n : ℕ) → (s : ℕ) × Set n s
  setting zero = (0, (subst (λ (x : ℕ). 0 < 2 ^ x) (sym (rank_zero f)) (omega arith), (λ g l. absurd (omega arith))))
  setting (suc n) =
      let r = setting n in
      elim (cases_Bool (occurs f n)) [
        | inl o ↦ (push (rank f n) r.0 (on n), more_yes n r.0 r.1 o)
        | inr o ↦ (r.0, more_no n r.0 r.1 o)
      ]

-- ---- the trace
each_at : (P : (ℕ → Bool) → Type 0) (xs : List (ℕ → Bool)) (d : ℕ → Bool) → Each P xs → (k : ℕ) → k < length xs → P (get_or xs k d)
each_at P [] d h k l = absurd (omega arith)
each_at P (x ∷ xs) d h zero l = h.0
each_at P (x ∷ xs) d h (suc k) l = each_at P xs d h.1 k (omega arith)

module _ (f : Form) (small : Small f) (σ : Run) where
  abbrev pub At : ℕ → ℕ → Type 0
  At j s = (s < 2 ^ basics f) × Signals (rank f) σ f j s × Agrees (rank f) σ f j s (signals f)

  at_total : (j : ℕ) → Likely ((s : ℕ) × At j s)
  unfolding signals
  at_total j =
      let r = setting f (σ j) 16 in
      then (build (rank f) σ j f (rank f 16) r.0 r.1.0)
      (λ t. sure (t.0, (t.1, (λ g o. let x = r.1.1 g (small.signals_few g o) o in t.2 (rank f g) x.0 ∙ x.1), t.3)))

  at_obeys : (j s : ℕ) → At j s → Obeys (σ j) ((machine f).marks s)
  at_obeys j s at g l =
      let b = bit_on s (rank f g) in
      let m : mark ((machine f).marks s) g ≡ mark_of f s g = marked f s at.0 g l in
      elim (cases_Bool (occurs f g)) [
        | inl o ↦
            let e : mark ((machine f).marks s) g ≡ cond b 1 2 = m ∙ cond-true (occurs f g) (cond b 1 2) 3 o in
            let bit : b ≡ σ j g = at.1 g o in
            elim (cases_Bool b) [
              | inl y ↦
                  let one : mark ((machine f).marks s) g ≡ 1 = e ∙ cond-true b 1 2 y in
                  ((λ h. sym bit ∙ y), (λ h. absurd (omega arith)))
              | inr y ↦
                  let two : mark ((machine f).marks s) g ≡ 2 = e ∙ cond-false b 1 2 y in
                  ((λ h. absurd (omega arith)), (λ h. sym bit ∙ y))
            ]
        | inr o ↦
            let three : mark ((machine f).marks s) g ≡ 3 = m ∙ cond-false (occurs f g) (cond b 1 2) 3 o in
            ((λ h. absurd (omega arith)), (λ h. absurd (omega arith)))
      ]

  pub machine_trace : Holds f σ 0 → Trace (machine f) σ At
  machine_trace meets =
      let n = 2 ^ basics f in
      record {
        total = at_total;
        exists = λ j s at. at.0;
        starts = λ s at. and_from (ltb s n) (holds (rank f) f s (signals f)) (lt-ltb s n at.0) ((true_at (rank f) σ f 0 s (signals f) at.1 at.2).1 meets);
        moves = λ j s t at bt.
            and_from (ltb s n) (ltb t n && linked (rank f) f s t (signals f)) (lt-ltb s n at.0)
            (and_from (ltb t n) (linked (rank f) f s t (signals f)) (lt-ltb t n bt.0) (linked_at (rank f) σ j s t f (signals f) at.2 bt.1 bt.2));
        keeps = λ k h j.
            then (each_at (Again (rank f) σ At) (kept (rank f) f (signals f)) (λ _. false) (again (rank f) σ At f (signals f) (λ i s at. at.1) (λ i s at. at.2)) k h j)
            (λ r. sure (r.0, r.1, (λ s at. and_from (ltb s n) (get_or (kept (rank f) f (signals f)) k (λ _. false) s) (lt-ltb s n at.0) (r.2 s at))));
        obeys = at_obeys;
      }

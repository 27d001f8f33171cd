-- A state whose bits are the truths of the next step: what is true in it is true on the run. Assumes nothing.
use Rattle.std.proofs.Common.{◌≡◌, ℕ, suc, ◌+◌, ◌^◌, ◌<◌, ◌≤◌, Bool, true, not, ◌&&◌, ◌||◌, List, [], ◌∷◌, ◌++◌, Decides, sym, refl, ◌∙◌, subst, inl, inr, arith}
use Rattle.std.proofs.lemmas.Bool.{false≢true, both_ways, and_parts, and_from, or_cases, or_left, or_right, cases_Bool, eq-eqb, not_from_false}
use Rattle.std.proofs.lemmas.Bool.Decides.{Decides-at, Decides-not, Decides-and, Decides-or, same_from_decides}
use Rattle.logic.specs.Runs.{Run}
use Rattle.logic.specs.Form.{Form, yes_form, no_form, signal, not_form, next_form, always, eventually, and_form, or_form, implies, until}
use Rattle.logic.specs.Truth.{Until, Holds}
use Rattle.logic.specs.Basics.{occurs, ops}
use Rattle.tableau.specs.Machine.{bit_on, holds, same, linked, kept}
use Rattle.logic.proofs.Unfold.{until_earlier, until_later}
use Rattle.soundness.proofs.Unroll.{from_same, decides_implies}
use Rattle.soundness.proofs.Sound.{Each}
use Rattle.logic.specs.Laws.{Likely}
use Rattle.soundness.proofs.Likely.{sure, then, known, tested}
use Rattle.soundness.proofs.Bits.{push, push_below, push_here, push_before}

-- ---- one step of the operators
module _ (P Q : ℕ → Type 0) (j : ℕ) where
  until_step : (q p u : Bool) → Decides q (Q j) → Decides p (P j) → Decides u (Until P Q (suc j)) → Decides (q || (p && u)) (Until P Q j)
  until_step q p u dq dp du = (
    (λ e. elim (or_cases q (p && u) e) [
      | inl h ↦ (j, omega arith, dq.0 h, (λ i low high. absurd (omega arith)))
      | inr h ↦ let r = and_parts p u h in until_earlier P Q j (dp.0 r.0) (du.0 r.1)
    ]),
    (λ v. elim (until_later P Q j v) [
      | inl h ↦ or_left q (p && u) (dq.1 h)
      | inr h ↦ or_right q (p && u) (and_from p u (dp.1 h.0) (du.1 h.1))
    ]),
  )

-- P is false at j or later
abbrev pub Fails : (ℕ → Type 0) → ℕ → Type 0
Fails P j = Until (λ _. Unit {0}) (λ k. P k → ⊥) j

module _ (P : ℕ → Type 0) (j : ℕ) where
  always_step : (p u : Bool) → Decides p (P j) → Decides u (Fails P (suc j) → ⊥) → Decides (p && u) (Fails P j → ⊥)
  always_step p u dp du = (
    (λ e v.
        let r = and_parts p u e in
        elim (until_later (λ _. Unit {0}) (λ k. P k → ⊥) j v) [ inl h ↦ h (dp.0 r.0) | inr h ↦ du.0 r.1 h.1 ]),
    (λ n. and_from p u
        (elim (cases_Bool p) [
          | inl e ↦ e
          | inr e ↦ absurd (n (j, omega arith, (λ x. both_ways p e (dp.1 x)), (λ i low high. tt)))
        ])
        (du.1 (λ v. n (until_earlier (λ _. Unit {0}) (λ k. P k → ⊥) j tt v)))),
  )

module _ (a : ℕ → ℕ) (σ : Run) where
  -- each operator's bit in s is the truth at step j + 1
  abbrev pub Agrees : Form → ℕ → ℕ → ℕ → Type 0
  Agrees yes_form j s k = Unit {0}
  Agrees no_form j s k = Unit {0}
  Agrees (signal g) j s k = Unit {0}
  Agrees (not_form f) j s k = Agrees f j s k
  Agrees (next_form f) j s k = Decides (bit_on s k) (Holds f σ (suc j)) × Agrees f j s (k + 1)
  Agrees (always f) j s k = Decides (bit_on s k) (Holds (always f) σ (suc j)) × Agrees f j s (k + 1)
  Agrees (eventually f) j s k = Decides (bit_on s k) (Holds (eventually f) σ (suc j)) × Agrees f j s (k + 1)
  Agrees (and_form f g) j s k = Agrees f j s k × Agrees g j s (k + ops f)
  Agrees (or_form f g) j s k = Agrees f j s k × Agrees g j s (k + ops f)
  Agrees (implies f g) j s k = Agrees f j s k × Agrees g j s (k + ops f)
  Agrees (until f g) j s k = Agrees f j s k × Decides (bit_on s (k + ops f)) (Holds (until f g) σ (suc j)) × Agrees g j s (k + ops f + 1)

  abbrev pub Signals : Form → ℕ → ℕ → Type 0
  Signals f j s = (g : ℕ) → occurs f g ≡ true → bit_on s (a g) ≡ σ j g

  on_left : (f g : Form) (j s : ℕ) → ((h : ℕ) → (occurs f h || occurs g h) ≡ true → bit_on s (a h) ≡ σ j h) → Signals f j s
  on_left f g j s sig h e = sig h (or_left (occurs f h) (occurs g h) e)

  on_right : (f g : Form) (j s : ℕ) → ((h : ℕ) → (occurs f h || occurs g h) ≡ true → bit_on s (a h) ≡ σ j h) → Signals g j s
  on_right f g j s sig h e = sig h (or_right (occurs f h) (occurs g h) e)

  pub true_at : (f : Form) (j s k : ℕ) → Signals f j s → Agrees f j s k → Decides (holds a f s k) (Holds f σ j)
  true_at yes_form j s k sig ag = (λ _. tt, λ _. refl)
  true_at no_form j s k sig ag = (λ e. false≢true e, λ x. absurd x)
  true_at (signal g) j s k sig ag = let e = sig g (eq-eqb g g refl) in (λ h. sym e ∙ h, λ h. e ∙ h)
  true_at (not_form f) j s k sig ag = Decides-not (holds a f s k) (true_at f j s k sig ag)
  true_at (next_form f) j s k sig ag = ag.0
  true_at (always f) j s k sig ag = always_step (λ i. Holds f σ i) j (holds a f s (k + 1)) (bit_on s k) (true_at f j s (k + 1) sig ag.1) ag.0
  true_at (eventually f) j s k sig ag =
      until_step (λ _. Unit {0}) (λ i. Holds f σ i) j (holds a f s (k + 1)) true (bit_on s k) (true_at f j s (k + 1) sig ag.1) (λ _. tt, λ _. refl) ag.0
  true_at (and_form f g) j s k sig ag =
      Decides-and (holds a f s k) (holds a g s (k + ops f)) (true_at f j s k (on_left f g j s sig) ag.0) (true_at g j s (k + ops f) (on_right f g j s sig) ag.1)
  true_at (or_form f g) j s k sig ag =
      Decides-or (holds a f s k) (holds a g s (k + ops f)) (true_at f j s k (on_left f g j s sig) ag.0) (true_at g j s (k + ops f) (on_right f g j s sig) ag.1)
  true_at (implies f g) j s k sig ag =
      decides_implies (holds a f s k) (holds a g s (k + ops f)) (true_at f j s k (on_left f g j s sig) ag.0) (true_at g j s (k + ops f) (on_right f g j s sig) ag.1)
  true_at (until f g) j s k sig ag =
      until_step (λ i. Holds f σ i) (λ i. Holds g σ i) j (holds a g s (k + ops f + 1)) (holds a f s k) (bit_on s (k + ops f))
      (true_at g j s (k + ops f + 1) (on_right f g j s sig) ag.2) (true_at f j s k (on_left f g j s sig) ag.0) ag.1

  -- ---- steps
  module _ (j s t : ℕ) where
    pub linked_at : (f : Form) (k : ℕ) → Agrees f j s k → Signals f (suc j) t → Agrees f (suc j) t k → linked a f s t k ≡ true
    linked_at yes_form k ag sig bg = refl
    linked_at no_form k ag sig bg = refl
    linked_at (signal g) k ag sig bg = refl
    linked_at (not_form f) k ag sig bg = linked_at f k ag sig bg
    linked_at (next_form f) k ag sig bg =
        let x = holds a f t (k + 1) in
        and_from (same (bit_on s k) x) _ (from_same (bit_on s k) x (same_from_decides (bit_on s k) x ag.0 (true_at f (suc j) t (k + 1) sig bg.1)))
        (linked_at f (k + 1) ag.1 sig bg.1)
    linked_at (always f) k ag sig bg =
        let x = holds a (always f) t k in
        and_from (same (bit_on s k) x) _ (from_same (bit_on s k) x (same_from_decides (bit_on s k) x ag.0 (true_at (always f) (suc j) t k sig bg)))
        (linked_at f (k + 1) ag.1 sig bg.1)
    linked_at (eventually f) k ag sig bg =
        let x = holds a (eventually f) t k in
        and_from (same (bit_on s k) x) _ (from_same (bit_on s k) x (same_from_decides (bit_on s k) x ag.0 (true_at (eventually f) (suc j) t k sig bg)))
        (linked_at f (k + 1) ag.1 sig bg.1)
    linked_at (and_form f g) k ag sig bg =
        and_from (linked a f s t k) _ (linked_at f k ag.0 (on_left f g (suc j) t sig) bg.0) (linked_at g (k + ops f) ag.1 (on_right f g (suc j) t sig) bg.1)
    linked_at (or_form f g) k ag sig bg =
        and_from (linked a f s t k) _ (linked_at f k ag.0 (on_left f g (suc j) t sig) bg.0) (linked_at g (k + ops f) ag.1 (on_right f g (suc j) t sig) bg.1)
    linked_at (implies f g) k ag sig bg =
        and_from (linked a f s t k) _ (linked_at f k ag.0 (on_left f g (suc j) t sig) bg.0) (linked_at g (k + ops f) ag.1 (on_right f g (suc j) t sig) bg.1)
    linked_at (until f g) k ag sig bg =
        let y = bit_on s (k + ops f) in
        let x = holds a (until f g) t k in
        and_from (linked a f s t k) _ (linked_at f k ag.0 (on_left f g (suc j) t sig) bg.0)
        (and_from (same y x) _ (from_same y x (same_from_decides y x ag.1 (true_at (until f g) (suc j) t k sig bg)))
        (linked_at g (k + ops f + 1) ag.2 (on_right f g (suc j) t sig) bg.2))

  -- ---- promises
  module _ (At : ℕ → ℕ → Type 0) where
    abbrev pub Again : (ℕ → Bool) → Type 0
    Again p = (j : ℕ) → Likely ((i : ℕ) × (j ≤ i) × ((s : ℕ) → At i s → p s ≡ true))

    each_join : (xs ys : List (ℕ → Bool)) → Each Again xs → Each Again ys → Each Again (xs ++ ys)
    each_join [] ys h g = g
    each_join (x ∷ xs) ys h g = (h.0, each_join xs ys h.1 g)

    abbrev pub Sig : Form → Type 0
    Sig f = (i s : ℕ) → At i s → Signals f i s

    abbrev pub Agr : Form → ℕ → Type 0
    Agr f k = (i s : ℕ) → At i s → Agrees f i s k

    -- an until is fulfilled where it is false or its end is true
    ends : (P Q : ℕ → Type 0) (u q : ℕ → Bool) → ((i s : ℕ) → At i s → Decides (u s) (Until P Q i)) → ((i s : ℕ) → At i s → Decides (q s) (Q i)) → Again (λ s. not (u s) || q s)
    ends P Q u q du dq j = then (known (Until P Q j)) (elim [
      | inl v ↦ sure (v.0, v.1, (λ s at. or_right (not (u s)) (q s) ((dq v.0 s at).1 v.2)))
      | inr n ↦ sure (
        j,
        omega arith,
        (λ s at. elim (cases_Bool (u s)) [
          | inl e ↦ absurd (n ((du j s at).0 e))
          | inr e ↦ or_left (not (u s)) (q s) (not_from_false (u s) e)
        ]),
      )
    ])

    -- an always is fulfilled where it is true or its formula is false
    breaks : (P : ℕ → Type 0) (u p : ℕ → Bool) → ((i s : ℕ) → At i s → Decides (u s) (Fails P i → ⊥)) → ((i s : ℕ) → At i s → Decides (p s) (P i)) → Again (λ s. u s || not (p s))
    breaks P u p du dp j = then (known (Fails P j)) (elim [
      | inl v ↦ sure (
        v.0,
        v.1,
        (λ s at. elim (cases_Bool (p s)) [
          | inl e ↦ absurd (v.2 ((dp v.0 s at).0 e))
          | inr e ↦ or_right (u s) (not (p s)) (not_from_false (p s) e)
        ]),
      )
      | inr n ↦ sure (j, omega arith, (λ s at. or_left (u s) (not (p s)) ((du j s at).1 n)))
    ])

    pub again : (f : Form) (k : ℕ) → Sig f → Agr f k → Each Again (kept a f k)
    again yes_form k sig ag = tt
    again no_form k sig ag = tt
    again (signal g) k sig ag = tt
    again (not_form f) k sig ag = again f k sig ag
    again (next_form f) k sig ag = again f (k + 1) sig (λ i s at. (ag i s at).1)
    again (always f) k sig ag = (
      breaks (λ i. Holds f σ i) (λ s. holds a (always f) s k) (λ s. holds a f s (k + 1))
          (λ i s at. true_at (always f) i s k (sig i s at) (ag i s at)) (λ i s at. true_at f i s (k + 1) (sig i s at) (ag i s at).1),
      again f (k + 1) sig (λ i s at. (ag i s at).1),
    )
    again (eventually f) k sig ag = (
      ends (λ _. Unit {0}) (λ i. Holds f σ i) (λ s. holds a (eventually f) s k) (λ s. holds a f s (k + 1))
          (λ i s at. true_at (eventually f) i s k (sig i s at) (ag i s at)) (λ i s at. true_at f i s (k + 1) (sig i s at) (ag i s at).1),
      again f (k + 1) sig (λ i s at. (ag i s at).1),
    )
    again (and_form f g) k sig ag =
        each_join (kept a f k) (kept a g (k + ops f)) (again f k (λ i s at. on_left f g i s (sig i s at)) (λ i s at. (ag i s at).0))
        (again g (k + ops f) (λ i s at. on_right f g i s (sig i s at)) (λ i s at. (ag i s at).1))
    again (or_form f g) k sig ag =
        each_join (kept a f k) (kept a g (k + ops f)) (again f k (λ i s at. on_left f g i s (sig i s at)) (λ i s at. (ag i s at).0))
        (again g (k + ops f) (λ i s at. on_right f g i s (sig i s at)) (λ i s at. (ag i s at).1))
    again (implies f g) k sig ag =
        each_join (kept a f k) (kept a g (k + ops f)) (again f k (λ i s at. on_left f g i s (sig i s at)) (λ i s at. (ag i s at).0))
        (again g (k + ops f) (λ i s at. on_right f g i s (sig i s at)) (λ i s at. (ag i s at).1))
    again (until f g) k sig ag =
        let m = k + ops f + 1 in
        each_join (kept a f k) ((λ s. not (holds a (until f g) s k) || holds a g s m) ∷ kept a g m) (again f k (λ i s at. on_left f g i s (sig i s at)) (λ i s at. (ag i s at).0)) (
          ends (λ i. Holds f σ i) (λ i. Holds g σ i) (λ s. holds a (until f g) s k) (λ s. holds a g s m)
              (λ i s at. true_at (until f g) i s k (sig i s at) (ag i s at)) (λ i s at. true_at g i s m (on_right f g i s (sig i s at)) (ag i s at).2),
          again g m (λ i s at. on_right f g i s (sig i s at)) (λ i s at. (ag i s at).2),
        )

  -- ---- a state for each step
  -- the bits below n are the same
  abbrev pub Alike : ℕ → ℕ → ℕ → Type 0
  Alike n s t = (q : ℕ) → q < n → bit_on t q ≡ bit_on s q

  moved : (P : Type 0) (s t q : ℕ) → bit_on t q ≡ bit_on s q → Decides (bit_on s q) P → Decides (bit_on t q) P
  moved P s t q e d = Decides-at (bit_on t q) (bit_on s q) e d

  module _ (j s t : ℕ) where
    stable : (f : Form) (k : ℕ) → Alike (k + ops f) s t → Agrees f j s k → Agrees f j t k
    stable yes_form k al ag = tt
    stable no_form k al ag = tt
    stable (signal g) k al ag = tt
    stable (not_form f) k al ag = stable f k al ag
    stable (next_form f) k al ag = (moved (Holds f σ (suc j)) s t k (al k (omega arith)) ag.0, stable f (k + 1) (λ q l. al q (omega arith)) ag.1)
    stable (always f) k al ag = (moved (Holds (always f) σ (suc j)) s t k (al k (omega arith)) ag.0, stable f (k + 1) (λ q l. al q (omega arith)) ag.1)
    stable (eventually f) k al ag = (moved (Holds (eventually f) σ (suc j)) s t k (al k (omega arith)) ag.0, stable f (k + 1) (λ q l. al q (omega arith)) ag.1)
    stable (and_form f g) k al ag = (stable f k (λ q l. al q (omega arith)) ag.0, stable g (k + ops f) (λ q l. al q (omega arith)) ag.1)
    stable (or_form f g) k al ag = (stable f k (λ q l. al q (omega arith)) ag.0, stable g (k + ops f) (λ q l. al q (omega arith)) ag.1)
    stable (implies f g) k al ag = (stable f k (λ q l. al q (omega arith)) ag.0, stable g (k + ops f) (λ q l. al q (omega arith)) ag.1)
    stable (until f g) k al ag = (
      stable f k (λ q l. al q (omega arith)) ag.0,
      moved (Holds (until f g) σ (suc j)) s t (k + ops f) (al (k + ops f) (omega arith)) ag.1,
      stable g (k + ops f + 1) (λ q l. al q (omega arith)) ag.2,
    )

  recount : (s m n : ℕ) → m ≡ n → s < 2 ^ m → s < 2 ^ n
  recount s m n e h = subst (λ (x : ℕ). s < 2 ^ x) e h

  module _ (j : ℕ) where
    abbrev Built : Form → ℕ → ℕ → Type 0
    Built f k s = (t : ℕ) × (t < 2 ^ (k + ops f)) × Alike k s t × Agrees f j t k

    -- the next bit as the truth of P
    one_more : (P : Type 0) (k s : ℕ) → s < 2 ^ k → Likely ((t : ℕ) × (t < 2 ^ (k + 1)) × Alike k s t × Decides (bit_on t k) P)
    one_more P k s h =
        then (tested P)
        (λ d. sure (push k s d.0, push_below k s d.0 h, push_before k s d.0 h, Decides-at (bit_on (push k s d.0) k) d.0 (push_here k s d.0 h) d.1))

    -- an operator of one operand: its bit, and then the operand's
    before : (P : Type 0) (f : Form) (k s : ℕ) → s < 2 ^ k → ((t : ℕ) → t < 2 ^ (k + 1) → Likely (Built f (k + 1) t))
        → Likely ((t : ℕ) × (t < 2 ^ (k + (ops f + 1))) × Alike k s t × (Decides (bit_on t k) P × Agrees f j t (k + 1)))
    before P f k s h rest =
        then (one_more P k s h)
        (λ x. then (rest x.0 x.1)
        (λ y. sure (
          y.0,
          recount y.0 (k + 1 + ops f) (k + (ops f + 1)) (omega arith) y.1,
          (λ q l. y.2 q (omega arith) ∙ x.2 q l),
          (moved P x.0 y.0 k (y.2 k (omega arith)) x.3, y.3),
        )))

    -- an operator of two operands that has no bit
    beside : (f g : Form) (k s : ℕ) → Likely (Built f k s) → ((t : ℕ) → t < 2 ^ (k + ops f) → Likely (Built g (k + ops f) t))
        → Likely ((t : ℕ) × (t < 2 ^ (k + (ops f + ops g))) × Alike k s t × (Agrees f j t k × Agrees g j t (k + ops f)))
    beside f g k s first second =
        then first
        (λ x. then (second x.0 x.1)
        (λ y. sure (
          y.0,
          recount y.0 (k + ops f + ops g) (k + (ops f + ops g)) (omega arith) y.1,
          (λ q l. y.2 q (omega arith) ∙ x.2 q l),
          (stable j x.0 y.0 f k y.2 x.3, y.3),
        )))

    pub build : (f : Form) (k s : ℕ) → s < 2 ^ k → Likely (Built f k s)
    build yes_form k s h = sure (s, recount s k (k + 0) (omega arith) h, (λ q l. refl), tt)
    build no_form k s h = sure (s, recount s k (k + 0) (omega arith) h, (λ q l. refl), tt)
    build (signal g) k s h = sure (s, recount s k (k + 0) (omega arith) h, (λ q l. refl), tt)
    build (not_form f) k s h = build f k s h
    build (next_form f) k s h = before (Holds f σ (suc j)) f k s h (build f (k + 1))
    build (always f) k s h = before (Holds (always f) σ (suc j)) f k s h (build f (k + 1))
    build (eventually f) k s h = before (Holds (eventually f) σ (suc j)) f k s h (build f (k + 1))
    build (and_form f g) k s h = beside f g k s (build f k s h) (build g (k + ops f))
    build (or_form f g) k s h = beside f g k s (build f k s h) (build g (k + ops f))
    build (implies f g) k s h = beside f g k s (build f k s h) (build g (k + ops f))
    build (until f g) k s h =
        let m = k + ops f in
        then (build f k s h)
        (λ x. then (one_more (Holds (until f g) σ (suc j)) m x.0 x.1)
        (λ y. then (build g (m + 1) y.0 y.1)
        (λ z. sure (
          z.0,
          recount z.0 (m + 1 + ops g) (k + (ops f + 1 + ops g)) (omega arith) z.1,
          (λ q l. z.2 q (omega arith) ∙ y.2 q (omega arith) ∙ x.2 q l),
          (
            stable j x.0 z.0 f k (λ q l. z.2 q (omega arith) ∙ y.2 q l) x.3,
            moved (Holds (until f g) σ (suc j)) y.0 z.0 m (z.2 m (omega arith)) y.3,
            z.3,
          ),
        ))))

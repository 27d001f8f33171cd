-- Truth in the states is truth on the run, at every occurrence. Assumes nothing.
use Rattle.std.proofs.Common.{◌≡◌, ℕ, suc, ◌+◌, Bool, true, ◌&&◌, ◌++◌, Decides}
use Rattle.std.proofs.lemmas.Bool.{and_parts, or_left, or_right}
use Rattle.logic.specs.Runs.{Run}
use Rattle.logic.specs.Form.{Form, yes_form, no_form, signal, not_form, next_form, always, eventually, and_form, or_form, implies, until}
use Rattle.logic.specs.Truth.{Holds}
use Rattle.logic.specs.Basics.{occurs, rank, ops, signals}
use Rattle.tableau.specs.Machine.{bit_on, holds, same, linked, kept}
use Rattle.soundness.specs.Truth.{Everywhere, TruthInStates}
use Rattle.soundness.proofs.Sound.{Each, each_left, each_right, Often, Shown, Linked, right}
use Rattle.soundness.proofs.Found.{step_parts, shown, kept_often}

module _ (a : ℕ → ℕ) (w : ℕ → ℕ) (σ : Run) where
  abbrev Right : Form → ℕ → Type 0
  Right g k = (j : ℕ) → Decides (holds a g (w j) k) (Holds g σ j)

  abbrev Given : Form → ℕ → Type 0
  Given f k = Shown a w σ f × Linked a w σ f k × Each (Often a w σ) (kept a f k)

  here : (f : Form) (k : ℕ) → Given f k → Right f k
  here f k h = right a w σ f k h.0 h.1 h.2

  -- the operand of an operator that has a bit
  below : (f : Form) (k : ℕ) (t : ℕ → Bool) → Shown a w σ f → ((j : ℕ) → (same (bit_on (w j) k) (t j) && linked a f (w j) (w (suc j)) (k + 1)) ≡ true) → Each (Often a w σ) (kept a f (k + 1)) → Given f (k + 1)
  below f k t sig link fair = (sig, (λ j. (and_parts (same (bit_on (w j) k) (t j)) (linked a f (w j) (w (suc j)) (k + 1)) (link j)).1), fair)

  -- the operands of an operator that has none
  abbrev Two : Form → Form → ℕ → Type 0
  Two f g k = Shown a w σ (and_form f g) × Linked a w σ (and_form f g) k × Each (Often a w σ) (kept a f k ++ kept a g (k + ops f))

  first : (f g : Form) (k : ℕ) → Two f g k → Given f k
  first f g k h = (
    (λ j x e. h.0 j x (or_left (occurs f x) (occurs g x) e)),
    (λ j. (and_parts (linked a f (w j) (w (suc j)) k) (linked a g (w j) (w (suc j)) (k + ops f)) (h.1 j)).0),
    each_left (Often a w σ) (kept a f k) (kept a g (k + ops f)) h.2,
  )

  second : (f g : Form) (k : ℕ) → Two f g k → Given g (k + ops f)
  second f g k h = (
    (λ j x e. h.0 j x (or_right (occurs f x) (occurs g x) e)),
    (λ j. (and_parts (linked a f (w j) (w (suc j)) k) (linked a g (w j) (w (suc j)) (k + ops f)) (h.1 j)).1),
    each_right (Often a w σ) (kept a f k) (kept a g (k + ops f)) h.2,
  )

  until_first : (f g : Form) (k : ℕ) → Given (until f g) k → Given f k
  until_first f g k h = (
    (λ j x e. h.0 j x (or_left (occurs f x) (occurs g x) e)),
    (λ j. (and_parts (linked a f (w j) (w (suc j)) k) _ (h.1 j)).0),
    each_left (Often a w σ) (kept a f k) _ h.2,
  )

  until_second : (f g : Form) (k : ℕ) → Given (until f g) k → Given g (k + ops f + 1)
  until_second f g k h = (
    (λ j x e. h.0 j x (or_right (occurs f x) (occurs g x) e)),
    (λ j. (and_parts (same (bit_on (w j) (k + ops f)) (holds a (until f g) (w (suc j)) k)) _ (and_parts (linked a f (w j) (w (suc j)) k) _ (h.1 j)).1).1),
    (each_right (Often a w σ) (kept a f k) _ h.2).1,
  )

  everywhere : (f : Form) (k : ℕ) → Given f k → Everywhere Right f k
  everywhere yes_form k h = here yes_form k h
  everywhere no_form k h = here no_form k h
  everywhere (signal g) k h = here (signal g) k h
  everywhere (not_form f) k h = (here (not_form f) k h, everywhere f k h)
  everywhere (next_form f) k h = (here (next_form f) k h, everywhere f (k + 1) (below f k (λ j. holds a f (w (suc j)) (k + 1)) h.0 h.1 h.2))
  everywhere (always f) k h = (here (always f) k h, everywhere f (k + 1) (below f k (λ j. holds a (always f) (w (suc j)) k) h.0 h.1 h.2.1))
  everywhere (eventually f) k h = (here (eventually f) k h, everywhere f (k + 1) (below f k (λ j. holds a (eventually f) (w (suc j)) k) h.0 h.1 h.2.1))
  everywhere (and_form f g) k h = (here (and_form f g) k h, everywhere f k (first f g k h), everywhere g (k + ops f) (second f g k h))
  everywhere (or_form f g) k h = (here (or_form f g) k h, everywhere f k (first f g k h), everywhere g (k + ops f) (second f g k h))
  everywhere (implies f g) k h = (here (implies f g) k h, everywhere f k (first f g k h), everywhere g (k + ops f) (second f g k h))
  everywhere (until f g) k h = (here (until f g) k h, everywhere f k (until_first f g k h), everywhere g (k + ops f + 1) (until_second f g k h))

pub truth_in_states : TruthInStates
truth_in_states f small w walks fair σ follows =
    everywhere (rank f) w σ f (signals f)
    (shown f small w walks fair σ follows, (λ j. (step_parts f small w walks fair σ follows j).1), kept_often f small w walks fair σ follows)

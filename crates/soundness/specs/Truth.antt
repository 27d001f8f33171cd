-- Truth in the states of a fair walk, and truth on the runs that follow it. Assumes nothing.
use Rattle.std.specs.Prelude.{ℕ, ◌+◌, Decides}
use Rattle.logic.specs.Runs.{Run}
use Rattle.logic.specs.Form.{Form, yes_form, no_form, signal, not_form, next_form, always, eventually, and_form, or_form, implies, until}
use Rattle.logic.specs.Truth.{Holds}
use Rattle.logic.specs.Basics.{rank, ops, signals}
use Rattle.plant.specs.Walks.{Walk, Fair, Follows}
use Rattle.tableau.specs.Machine.{holds, machine}
use Rattle.tableau.specs.Small.{Small}

-- P of each occurrence and of the first of its operators' bits
abbrev pub Everywhere : (Form → ℕ → Type 0) → Form → ℕ → Type 0
Everywhere P yes_form k = P yes_form k
Everywhere P no_form k = P no_form k
Everywhere P (signal g) k = P (signal g) k
Everywhere P (not_form f) k = P (not_form f) k × Everywhere P f k
Everywhere P (next_form f) k = P (next_form f) k × Everywhere P f (k + 1)
Everywhere P (always f) k = P (always f) k × Everywhere P f (k + 1)
Everywhere P (eventually f) k = P (eventually f) k × Everywhere P f (k + 1)
Everywhere P (and_form f g) k = P (and_form f g) k × Everywhere P f k × Everywhere P g (k + ops f)
Everywhere P (or_form f g) k = P (or_form f g) k × Everywhere P f k × Everywhere P g (k + ops f)
Everywhere P (implies f g) k = P (implies f g) k × Everywhere P f k × Everywhere P g (k + ops f)
Everywhere P (until f g) k = P (until f g) k × Everywhere P f k × Everywhere P g (k + ops f + 1)

-- on a fair walk of the machine, and a run that follows it, the truth of each occurrence in the states is its truth on the run
abbrev pub TruthInStates : Type 0
TruthInStates = (f : Form) → Small f → (w : ℕ → ℕ) → Walk (machine f) w → Fair (machine f) w → (σ : Run) → Follows (machine f) σ w
    → Everywhere (λ g k. (j : ℕ) → Decides (holds (rank f) g (w j) k) (Holds g σ j)) f (signals f)

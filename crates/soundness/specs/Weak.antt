-- Truth with no choice made: what cannot be denied. Assumes nothing.
use Rattle.std.specs.Prelude.{◌≡◌, ℕ, suc, ◌≤◌, true, ◌⊎◌, List}
use Rattle.logic.specs.Runs.{Run}
use Rattle.logic.specs.Form.{Form, yes_form, no_form, signal, not_form, next_form, always, eventually, and_form, or_form, implies, until}
use Rattle.logic.specs.Truth.{Until, Holds}
use Rattle.logic.specs.Basics.{all}
use Rattle.plant.specs.Meaning.{Meaning, Lawful}
use Rattle.plant.specs.Walks.{Runs}
use Rattle.tableau.specs.Machine.{tableau}
use Rattle.tableau.specs.Small.{Small}
use Rattle.joint.specs.Pair.{fits, joint}
use Rattle.plant.specs.Walks.{Walk, Fair}

-- `some` and `or` without saying which, `always` as at every step
abbrev pub Weak : Form → Run → ℕ → Type 0
Weak yes_form σ j = Unit {0}
Weak no_form σ j = ⊥
Weak (signal g) σ j = σ j g ≡ true
Weak (not_form f) σ j = Weak f σ j → ⊥
Weak (next_form f) σ j = Weak f σ (suc j)
Weak (always f) σ j = (k : ℕ) → j ≤ k → Weak f σ k
Weak (eventually f) σ j = (((k : ℕ) × (j ≤ k) × Weak f σ k) → ⊥) → ⊥
Weak (and_form f g) σ j = Weak f σ j × Weak g σ j
Weak (or_form f g) σ j = (Weak f σ j ⊎ Weak g σ j → ⊥) → ⊥
Weak (implies f g) σ j = Weak f σ j → Weak g σ j
Weak (until f g) σ j = (Until (λ i. Weak f σ i) (λ k. Weak g σ k) j → ⊥) → ⊥

-- truth gives weak truth, and weak truth cannot be denied to be truth
abbrev pub WeakRight : Type 0
WeakRight = (f : Form) (σ : Run) (j : ℕ) → (Holds f σ j → Weak f σ j) × (Weak f σ j → (Holds f σ j → ⊥) → ⊥)

-- after none, no run of the plant meets the rules even weakly
abbrev pub NoneWeak : Type 0
NoneWeak = (rs : List Form) (m : Meaning) → Small (all rs) → Lawful m → fits (tableau rs) m ≡ true → ((w : ℕ → ℕ) → Walk (joint (tableau rs) m) w → Fair (joint (tableau rs) m) w → ⊥)
    → (σ : Run) → Runs m σ → Weak (all rs) σ 0 → ⊥

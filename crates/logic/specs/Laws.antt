-- Laws of truth that hold of every formula, at every step of every run. Assumes nothing.
use Rattle.std.specs.Prelude.{ℕ, suc, ◌≤◌, ◌⊎◌}
use Rattle.logic.specs.Runs.{Run}
use Rattle.logic.specs.Form.{Form, yes_form, not_form, always, eventually, until}
use Rattle.logic.specs.Truth.{Holds}

abbrev pub Same : Type 0 → Type 0 → Type 0
Same P Q = (P → Q) × (Q → P)

-- P cannot be denied
abbrev pub Likely : Type 0 → Type 0
Likely P = (P → ⊥) → ⊥

pub record Unfolding : Type 0 where
  -- `f until g`: g now, or f now and `f until g` from the next step on
  pub until_unfolds : (f g : Form) (σ : Run) (j : ℕ) → Same (Holds (until f g) σ j) (Holds g σ j ⊎ (Holds f σ j × Holds (until f g) σ (suc j)))
  -- `eventually f` is `true until f`
  pub eventually_until : (f : Form) (σ : Run) (j : ℕ) → Same (Holds (eventually f) σ j) (Holds (until yes_form f) σ j)
  -- `eventually f`: f now, or eventually from the next step on
  pub eventually_unfolds : (f : Form) (σ : Run) (j : ℕ) → Same (Holds (eventually f) σ j) (Holds f σ j ⊎ Holds (eventually f) σ (suc j))
  -- `always f` is `not eventually not f`
  pub always_eventually : (f : Form) (σ : Run) (j : ℕ) → Same (Holds (always f) σ j) (Holds (not_form (eventually (not_form f))) σ j)
  -- `always f`: f, which cannot be denied, at every later step
  pub always_everywhere : (f : Form) (σ : Run) (j : ℕ) → Same (Holds (always f) σ j) ((k : ℕ) → j ≤ k → Likely (Holds f σ k))
  -- `always f`: f now, which cannot be denied, and always from the next step on
  pub always_unfolds : (f : Form) (σ : Run) (j : ℕ) → Same (Holds (always f) σ j) (Likely (Holds f σ j) × Holds (always f) σ (suc j))
  -- `not always f`: it cannot be denied that eventually not f
  pub not_always : (f : Form) (σ : Run) (j : ℕ) → Same (Holds (not_form (always f)) σ j) (Likely (Holds (eventually (not_form f)) σ j))

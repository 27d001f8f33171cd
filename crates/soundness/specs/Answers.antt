-- What verdicts say of the runs of a plant that meet every rule. Assumes nothing.
use Rattle.std.specs.Prelude.{◌≡◌, ℕ, Bool, true, false, List, ◌≢◌}
use Rattle.logic.specs.Runs.{Run}
use Rattle.logic.specs.Form.{Form}
use Rattle.logic.specs.Truth.{Meets}
use Rattle.plant.specs.Meaning.{Meaning}
use Rattle.plant.specs.Walks.{Runs}
use Rattle.plant.specs.declared.probe.Value.{Value}
use Rattle.plant.specs.declared.probe.Value.TheVariants.{On, Off}

-- no run of the plant meets every rule
abbrev pub NoRun : List Form → Meaning → Type 0
NoRun rs m = (σ : Run) → Runs m σ → Meets σ rs → ⊥

-- the value of a signal that is on, or off
abbrev pub is_on : Value → Bool
is_on On = true
is_on Off = false

-- no run of the plant that meets every rule has the signal g so at step i
abbrev pub Never : List Form → Meaning → ℕ → ℕ → Value → Type 0
Never rs m i g v = (σ : Run) → Runs m σ → Meets σ rs → σ i g ≢ is_on v

-- some run of the plant that meets every rule has
pub record Sometimes (rs : List Form) (m : Meaning) (i g : ℕ) (v : Value) : Type 0 where
  pub run : Run
  pub runs : Runs m run
  pub meets : Meets run rs
  pub there : run i g ≡ is_on v

-- What a plant is: its meaning, and what every meaning keeps. Assumes nothing.
use Rattle.std.specs.Prelude.{◌≡◌, ℕ, ◌<◌, ◌≤◌, Bool, true, false, Some, None, Option}
use Rattle.logic.specs.Marks.{all_either, Whole}

-- the most states and the most promises that a fit plant has
abbrev pub most_states : ℕ
most_states = 1048576

abbrev pub most_promises : ℕ
most_promises = 64

-- fit or not, so many states and promises, which states are starts, to which states each steps, which promises each
-- fulfils, and the mark word of each
pub record Meaning : Type 0 where
  pub fit : Bool
  pub states : ℕ
  pub promises : ℕ
  pub start : ℕ → Bool
  pub step : ℕ → ℕ → Bool
  pub fulfils : ℕ → ℕ → Bool
  pub marks : ℕ → ℕ

-- what the meaning of every plant keeps: the limits, nothing of a state or a promise that does not exist, no zero mark
pub record Lawful (m : Meaning) : Type 0 where
  pub few_states : m.states ≤ most_states
  pub few_promises : m.promises ≤ most_promises
  pub unfit_states : m.fit ≡ false → m.states ≡ 0
  pub unfit_promises : m.fit ≡ false → m.promises ≡ 0
  pub starts_exist : (s : ℕ) → m.start s ≡ true → s < m.states
  pub steps_from : (s t : ℕ) → m.step s t ≡ true → s < m.states
  pub steps_to : (s t : ℕ) → m.step s t ≡ true → t < m.states
  pub fulfils_state : (s k : ℕ) → m.fulfils s k ≡ true → s < m.states
  pub fulfils_promise : (s k : ℕ) → m.fulfils s k ≡ true → k < m.promises
  pub mark_some : (s : ℕ) → s < m.states → Whole (m.marks s)
  pub mark_none : (s : ℕ) → m.states ≤ s → m.marks s ≡ all_either

-- the smallest number at or above t that passes the test, or absent
abbrev pub Least : (ℕ → Bool) → ℕ → Option ℕ → Type 0
Least f t (Some u) = (t ≤ u) × (f u ≡ true) × ((v : ℕ) → t ≤ v → v < u → f v ≡ false)
Least f t None = (v : ℕ) → t ≤ v → f v ≡ false

-- the smallest state at or above t to which s steps, or absent
abbrev pub Smallest : Meaning → ℕ → ℕ → Option ℕ → Type 0
Smallest m s t r = Least (m.step s) t r

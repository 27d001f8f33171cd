-- Truth of a formula at a step of a run. Assumes nothing.
use Rattle.std.specs.Prelude.{◌≡◌, ℕ, suc, ◌<◌, ◌≤◌, true, ◌⊎◌, List, [], ◌∷◌}
use Rattle.logic.specs.Runs.{Run}
use Rattle.logic.specs.Form.{Form, yes_form, no_form, signal, not_form, next_form, always, eventually, and_form, or_form, implies, until}

-- Q at some step k ≥ j, and P at every step from j to k − 1
abbrev pub Until : (ℕ → Type 0) → (ℕ → Type 0) → ℕ → Type 0
Until P Q j = (k : ℕ) × (j ≤ k) × Q k × ((i : ℕ) → j ≤ i → i < k → P i)

-- the formula is true at step j of the run: `eventually` is `true until`, and `always` is `not eventually not`
abbrev pub Holds : Form → Run → ℕ → Type 0
Holds yes_form σ j = Unit {0}
Holds no_form σ j = ⊥
Holds (signal g) σ j = σ j g ≡ true
Holds (not_form f) σ j = Holds f σ j → ⊥
Holds (next_form f) σ j = Holds f σ (suc j)
Holds (always f) σ j = Until (λ _. Unit {0}) (λ k. Holds f σ k → ⊥) j → ⊥
Holds (eventually f) σ j = Until (λ _. Unit {0}) (λ k. Holds f σ k) j
Holds (and_form f g) σ j = Holds f σ j × Holds g σ j
Holds (or_form f g) σ j = Holds f σ j ⊎ Holds g σ j
Holds (implies f g) σ j = Holds f σ j → Holds g σ j
Holds (until f g) σ j = Until (λ i. Holds f σ i) (λ k. Holds g σ k) j

-- the run meets every rule: each is true at its step 0
abbrev pub Meets : Run → List Form → Type 0
Meets σ [] = Unit {0}
Meets σ (r ∷ rs) = Holds r σ 0 × Meets σ rs

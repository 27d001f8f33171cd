-- What decide answers, why it is refused, and what it leaves in the sheet. Assumes nothing.
use Rattle.std.specs.Prelude.{◌≡◌, ℕ, ◌+◌, ◌≤◌, List, length, Some, None, Ok, Err, Option, Result, slice_index}
use Rattle.faults.specs.declared.fault.Fault.{Fault}
use Rattle.faults.specs.declared.causes.BookCause.{BookCause}
use Rattle.faults.specs.Refusals.{Refusal}
use Rattle.logic.specs.Runs.{Run}
use Rattle.logic.specs.Form.{Form}
use Rattle.logic.specs.Truth.{Meets}
use Rattle.plant.specs.Meaning.{Meaning}
use Rattle.plant.specs.Walks.{Runs}
use Rattle.plant.specs.Lasso.{Lasso}
use Rattle.joint.specs.Pair.{joint}
use Rattle.search.specs.declared.shape.Shape.{Shape}
use Rattle.search.specs.Search.{FairWalk, most, search_cause}
use Rattle.tableau.specs.Machine.{tableau}
use Rattle.soundness.specs.Sheet.{Written, AgreesWith}

-- the machine that decide searches: the rules' machine and the plant
abbrev pub searched : List Form → Meaning → Meaning
searched rs m = joint (tableau rs) m

-- 18, 19 and 20, in their order
abbrev pub decide_cause : List Form → Meaning → ℕ → ℕ → Option Refusal
decide_cause rs m work sheet = search_cause (searched rs m) work sheet

-- the sheet shows a run: along the stem and then round the loop for ever
pub record Shows (rs : List Form) (m : Meaning) (shape : Shape) (before sheet : List ℕ) : Type 0 where
  -- the states of a fair walk of the machine, and in their places in the sheet their mark words
  pub states : List ℕ
  pub walk : Lasso (searched rs m) states shape.stem shape.turn
  pub marks : Written (searched rs m) states sheet (shape.stem + shape.turn)
  -- every run that agrees with the sheet's on and off entries is a run of the plant and meets every rule
  pub honest : (σ : Run) → AgreesWith σ sheet shape.stem shape.turn → Runs m σ × Meets σ rs
  -- and there is such a run
  pub some : (σ : Run) × AgreesWith σ sheet shape.stem shape.turn
  -- the other entries are as they were
  pub short : shape.stem + shape.turn ≤ most (searched rs m)
  pub long : length sheet ≡ length before
  pub rest : (q : ℕ) → shape.stem + shape.turn ≤ q → slice_index sheet q ≡ slice_index before q

-- a run is shown, or there is no fair walk and the sheet is as it was
abbrev pub Settled : List Form → Meaning → Option Shape → List ℕ → List ℕ → Type 0
Settled rs m (Some shape) before sheet = Shows rs m shape before sheet
Settled rs m None before sheet = (FairWalk (searched rs m) → ⊥) × (sheet ≡ before)

-- what decide answers, and the sheet afterwards: as it was, where it is refused
abbrev pub Decided : List Form → Meaning → Result (Option Shape) (Fault BookCause) → List ℕ → List ℕ → Type 0
Decided rs m (Ok o) before sheet = Settled rs m o before sheet
Decided rs m (Err e) before sheet = sheet ≡ before

-- The marks of a walk in place of its states. Assumes nothing.
use Rattle.std.specs.Prelude.{◌≡◌, ℕ, ◌+◌, ◌≤◌, List, length, Some, None, Ok, Err, Option, Result, slice_index}
use Rattle.faults.specs.declared.fault.Fault.{Fault}
use Rattle.faults.specs.declared.causes.SearchCause.{SearchCause}
use Rattle.plant.specs.Meaning.{Meaning}
use Rattle.plant.specs.Lasso.{Lasso}
use Rattle.search.specs.declared.shape.Shape.{Shape}
use Rattle.search.specs.Search.{FairWalk, most}
use Rattle.soundness.specs.Sheet.{Written}

-- the sheet holds the mark words of a fair walk of this shape, and elsewhere what it held
pub record Marks (m : Meaning) (shape : Shape) (before sheet : List ℕ) : Type 0 where
  pub states : List ℕ
  pub walk : Lasso m states shape.stem shape.turn
  pub marks : Written m states sheet (shape.stem + shape.turn)
  pub short : shape.stem + shape.turn ≤ most m
  pub long : length sheet ≡ length before
  pub rest : (q : ℕ) → shape.stem + shape.turn ≤ q → slice_index sheet q ≡ slice_index before q

-- a walk is found, or there is none and the sheet is as it was
abbrev pub MarksFound : Meaning → Option Shape → List ℕ → List ℕ → Type 0
MarksFound m (Some shape) before sheet = Marks m shape before sheet
MarksFound m None before sheet = (FairWalk m → ⊥) × (sheet ≡ before)

abbrev pub Marked : Meaning → Result (Option Shape) (Fault SearchCause) → List ℕ → List ℕ → Type 0
Marked m (Ok o) before sheet = MarksFound m o before sheet
Marked m (Err e) before sheet = sheet ≡ before

-- What a sheet says: a row of mark words, and a loop in it. Assumes nothing.
use Rattle.std.specs.Prelude.{◌≡◌, ℕ, ◌<◌, List, slice_index}
use Rattle.logic.specs.Runs.{Run}
use Rattle.logic.specs.Marks.{Obeys}
use Rattle.plant.specs.Meaning.{Meaning}
use Rattle.plant.specs.Lasso.{place}

-- the first n entries are the mark words of these states, each in its place
abbrev pub Written : Meaning → List ℕ → List ℕ → ℕ → Type 0
Written m ws sheet n = (i : ℕ) → i < n → slice_index sheet i ≡ m.marks (slice_index ws i)

-- the run goes along the sheet and round its loop for ever, on where the sheet says on and off where it says off
abbrev pub AgreesWith : Run → List ℕ → ℕ → ℕ → Type 0
AgreesWith σ sheet stem loop = (j : ℕ) → Obeys (σ j) (slice_index sheet (place stem loop j))

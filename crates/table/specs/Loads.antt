-- When a load is granted, and why and where it is refused. Assumes nothing.
use Rattle.std.specs.Prelude.{◌≡◌, ℕ, ◌<◌, ◌≤◌, true, List, length, Some, None, Ok, Err, Option, Result, ◌≢◌, slice_index_or}
use Rattle.logic.specs.Marks.{Whole}
use Rattle.faults.specs.declared.fault.Fault.{Fault}
use Rattle.faults.specs.declared.causes.PlantCause.{PlantCause}
use Rattle.faults.specs.declared.causes.PlantCause.TheVariants.{Large, BadState, BadEdge}
use Rattle.table.specs.Rows.{no_row, no_edge, bit}
use Rattle.table.specs.declared.rows.StateRow.{StateRow}
use Rattle.table.specs.declared.rows.EdgeRow.{EdgeRow}

-- at most 256 state rows, 4,096 edge rows and 16 promises
abbrev pub Small : List StateRow → List EdgeRow → ℕ → Type 0
Small rows edges p = (length rows ≤ 256) × (length edges ≤ 4096) × (p ≤ 16)

-- no mark is zero, and no promise bit at or above p is set
abbrev pub GoodState : ℕ → StateRow → Type 0
GoodState p r = Whole r.marks × ((k : ℕ) → p ≤ k → bit r.fulfils k ≢ true)

-- from a state, to a state, there being n
abbrev pub GoodEdge : ℕ → EdgeRow → Type 0
GoodEdge n e = (e.from < n) × (e.to < n)

-- every element is good; d stands past the end
abbrev pub AllGood : {X : Type 0} → (X → Type 0) → List X → X → Type 0
AllGood Good xs d = (i : ℕ) → i < length xs → Good (slice_index_or xs i d)

-- i is the place of the first element that is not good
abbrev pub FirstBad : {X : Type 0} → (X → Type 0) → List X → X → ℕ → Type 0
FirstBad Good xs d i = (i < length xs) × (Good (slice_index_or xs i d) → ⊥) × ((j : ℕ) → j < i → Good (slice_index_or xs j d))

-- the place of the first element that is not good, or absent
abbrev pub First : {X : Type 0} → (X → Type 0) → List X → X → Option ℕ → Type 0
First Good xs d (Some i) = FirstBad Good xs d i
First Good xs d None = AllGood Good xs d

abbrev pub Granted : List StateRow → List EdgeRow → ℕ → Type 0
Granted rows edges p = Small rows edges p × AllGood (GoodState p) rows no_row × AllGood (GoodEdge (length rows)) edges no_edge

-- the first cause that applies, in the order too large, a bad state row, a bad edge row, and its place
abbrev pub Refused : List StateRow → List EdgeRow → ℕ → PlantCause → ℕ → Type 0
Refused rows edges p Large place = (Small rows edges p → ⊥) × (place ≡ 0)
Refused rows edges p BadState place = Small rows edges p × FirstBad (GoodState p) rows no_row place
Refused rows edges p BadEdge place = Small rows edges p × AllGood (GoodState p) rows no_row × FirstBad (GoodEdge (length rows)) edges no_edge place

-- the answer of a load
abbrev pub Verdict : List StateRow → List EdgeRow → ℕ → Result Unit (Fault PlantCause) → Type 0
Verdict rows edges p (Ok u) = Granted rows edges p
Verdict rows edges p (Err f) = Refused rows edges p f.cause f.place

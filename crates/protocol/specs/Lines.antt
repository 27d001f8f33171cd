-- How an input is cut into lines. Assumes nothing.
use Rattle.std.specs.Prelude.{◌≡◌, ℕ, ◌+◌, Bool, cond, not, List, [], ◌∷◌, take, drop, Some, None, Option, ◌==◌, ◌≢◌}
use Rattle.std.specs.List.{prefix_len}
use Rattle.protocol.specs.declared.input.Cut.{Cut}

-- every byte but a line feed
abbrev pub in_line : ℕ → Bool
in_line b = not (b == 10)

-- an empty input has no line; else the line ends before the first line feed, or with the input, and the rest stands after that
abbrev pub Cuts : List ℕ → Option Cut → Type 0
Cuts input None = input ≡ []
Cuts input (Some c) = (input ≢ []) × (c.line.now ≡ take (prefix_len in_line input) input) × (c.rest.now ≡ drop (prefix_len in_line input + 1) input)

-- a byte before the first of these lines, or as a line of its own
abbrev pub begun : ℕ → List (List ℕ) → List (List ℕ)
begun b [] = (b ∷ []) ∷ []
begun b (l ∷ ls) = (b ∷ l) ∷ ls

-- the lines of an input, without their line feeds
abbrev pub lines_of : List ℕ → List (List ℕ)
lines_of [] = []
lines_of (b ∷ bs) = cond (in_line b) (begun b (lines_of bs)) ([] ∷ lines_of bs)

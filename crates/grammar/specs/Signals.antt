-- The signal that a name is. Assumes nothing.
use Rattle.std.specs.Prelude.{ℕ, List, take, Option}
use Rattle.reading.specs.Names.{found}

-- the number of a name: its place among the declared names, of which there are sixteen at most
abbrev pub signal_named : List (List ℕ) → List ℕ → Option ℕ
signal_named names w = found (take 16 names) w 0

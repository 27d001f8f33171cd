-- Settings and runs. Assumes nothing.
use Rattle.std.specs.Prelude.{ℕ, Bool}

-- of each signal, by its number from 0 to 15, whether it is on
abbrev pub Setting : Type 0
Setting = ℕ → Bool

-- a setting at every step 0, 1, 2, without end
abbrev pub Run : Type 0
Run = ℕ → Setting

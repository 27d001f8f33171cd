-- How much text a reading has left. Assumes nothing.
use Rattle.std.specs.Prelude.{ℕ, ◌+◌, ◌-◌, ◌<◌, ◌≤◌, length, Some, None, Ok, Err, Option, Result}
use Rattle.reading.specs.declared.token.Placed.{Placed}
use Rattle.grammar.specs.declared.state.State.{State}

abbrev pub one : Option Placed → ℕ
one (Some p) = 1
one None = 0

-- the bytes past the cursor, and one for a token that is held ahead
abbrev pub left : State → ℕ
left s = length s.reader.text.now - s.reader.at + one s.ahead

abbrev pub Falls : {X Y : Type 0} → Result X Y → ℕ → ℕ → Type 0
Falls (Ok x) after before = after < before
Falls (Err e) after before = after ≤ before

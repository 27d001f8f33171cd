-- What the tokens of a text tell of its formula before it is read. Assumes nothing.
use Rattle.std.specs.Prelude.{ℕ, ◌+◌, Bool, true, false, cond, ◌||◌, List, Some, None, Option, ◌==◌}
use Rattle.reading.specs.Tokens.{Tok, open', close', and', or', implies', until', not', next', always', eventually', true', false', name'}
use Rattle.grammar.specs.Signals.{signal_named}
use Rattle.grammar.specs.Limits.{Stream, end, stop, more}

-- the token is an operator that looks ahead in time
abbrev pub is_temporal : Tok → Bool
is_temporal open' = false
is_temporal close' = false
is_temporal and' = false
is_temporal or' = false
is_temporal implies' = false
is_temporal until' = true
is_temporal not' = false
is_temporal next' = true
is_temporal always' = true
is_temporal eventually' = true
is_temporal true' = false
is_temporal false' = false
is_temporal (name' w) = false

abbrev pub is_signal : Option ℕ → ℕ → Bool
is_signal (Some h) g = h == g
is_signal None g = false

-- the token is the name of the signal g
abbrev pub is_name_of : List (List ℕ) → Tok → ℕ → Bool
is_name_of names open' g = false
is_name_of names close' g = false
is_name_of names and' g = false
is_name_of names or' g = false
is_name_of names implies' g = false
is_name_of names until' g = false
is_name_of names not' g = false
is_name_of names next' g = false
is_name_of names always' g = false
is_name_of names eventually' g = false
is_name_of names true' g = false
is_name_of names false' g = false
is_name_of names (name' w) g = is_signal (signal_named names w) g

-- how many of the tokens are operators that look ahead
abbrev pub ops_in : Stream → ℕ
ops_in (end m) = 0
ops_in (stop c p) = 0
ops_in (more t p s) = cond (is_temporal t) 1 0 + ops_in s

-- one of the tokens is the name of the signal g
abbrev pub mentions : List (List ℕ) → Stream → ℕ → Bool
mentions names (end m) g = false
mentions names (stop c p) g = false
mentions names (more t p s) g = is_name_of names t g || mentions names s g

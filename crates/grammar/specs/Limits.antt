-- The tokens of a rule, cut off at the 33rd that is no parenthesis. Assumes nothing.
use Rattle.std.specs.Prelude.{ℕ, ◌+◌, Bool, true, false, cond, not, ◌&&◌, List, nat_le}
use Rattle.faults.specs.declared.causes.ReadingCause.{ReadingCause}
use Rattle.faults.specs.declared.causes.ReadingCause.TheVariants.{Words, ManyTokens}
use Rattle.reading.specs.Tokens.{Tok, open', close', and', or', implies', until', not', next', always', eventually', true', false', name'}
use Rattle.reading.specs.Rows as rows
use Rattle.reading.specs.Rows.{Row, row}

-- the tokens of a rule, each with its place, up to the text's end or to the first that is refused by itself
pub data Stream : Type 0 where
  -- the text ends: its length
  end : ℕ → Stream
  stop : ReadingCause → ℕ → Stream
  more : Tok → ℕ → Stream → Stream

abbrev pub is_paren : Tok → Bool
is_paren open' = true
is_paren close' = true
is_paren and' = false
is_paren or' = false
is_paren implies' = false
is_paren until' = false
is_paren not' = false
is_paren next' = false
is_paren always' = false
is_paren eventually' = false
is_paren true' = false
is_paren false' = false
is_paren (name' w) = false

-- the token is the 33rd, where n that are no parenthesis came before it
abbrev pub is_too_many : Tok → ℕ → Bool
is_too_many t n = not (is_paren t) && nat_le 32 n

-- how many that are no parenthesis there are with this one
abbrev pub tally : Tok → ℕ → ℕ
tally t n = cond (is_paren t) n (n + 1)

-- a row of tokens before which n came that are no parenthesis
abbrev pub limited : ℕ → Row → Stream
limited n (rows.ends m) = end m
limited n (rows.stops c p) = stop (Words c) p
limited n (rows.more t p s) = cond (is_too_many t n) (stop ManyTokens p) (more t p (limited (tally t n) s))

abbrev pub tokens : List ℕ → Stream
tokens text = limited 0 (row text)

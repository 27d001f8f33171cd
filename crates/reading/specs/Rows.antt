-- The tokens of a text from left to right, each with its place. Assumes nothing.
use Rattle.std.specs.Prelude.{ℕ, zero, suc, ◌-◌, List, length}
use Rattle.faults.specs.declared.causes.WordCause.{WordCause}
use Rattle.reading.specs.Tokens.{Tok, Lexed, finished, token, refused, lex}

pub data Row : Type 0 where
  -- the text ends: its length
  ends : ℕ → Row
  -- the words refuse here
  stops : WordCause → ℕ → Row
  more : Tok → ℕ → Row → Row

-- what comes next, and how the row goes on from the cursor after it
abbrev pub onward : ℕ → (ℕ → Row) → Lexed → Row
onward m go (finished p) = ends m
onward m go (refused c p) = stops c p
onward m go (token t p a) = more t p (go a)

-- the first number bounds how many tokens follow
abbrev pub feed : ℕ → List ℕ → ℕ → Row
feed zero text at = ends (length text)
feed (suc k) text at = onward (length text) (λ a. feed k text a) (lex text at)

-- the tokens from the cursor on: each takes a byte at least
unfoldable pub row_from : List ℕ → ℕ → Row
row_from text at = feed (length text - at) text at

abbrev pub row : List ℕ → Row
row text = row_from text 0

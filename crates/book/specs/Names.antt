-- Which texts can be the name of a signal. Assumes nothing.
use Rattle.std.specs.Prelude.{ℕ, Bool, false, List, length, ◌==◌}
use Rattle.reading.specs.Tokens.{Tok, open', close', and', or', implies', until', not', next', always', eventually', true', false', name', Lexed, finished, token, refused, lex}

-- the token is a name of m bytes
abbrev pub name_in : ℕ → Tok → Bool
name_in m open' = false
name_in m close' = false
name_in m and' = false
name_in m or' = false
name_in m implies' = false
name_in m until' = false
name_in m not' = false
name_in m next' = false
name_in m always' = false
name_in m eventually' = false
name_in m true' = false
name_in m false' = false
name_in m (name' w) = length w == m

abbrev pub name_at : ℕ → Lexed → Bool
name_at m (finished p) = false
name_at m (token t p a) = name_in m t
name_at m (refused c p) = false

-- the text is one word that is not reserved: its first token is a name as long as the text
unfoldable pub is_one_name : List ℕ → Bool
is_one_name w = name_at (length w) (lex w 0)

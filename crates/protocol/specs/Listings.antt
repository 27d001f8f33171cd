-- What is written of the tokens of a text: a line for each, with its place and its kind. Assumes nothing.
use Rattle.std.specs.Prelude.{ℕ, List, ◌++◌, codes, decimal}
use Rattle.faults.specs.Numbers.{word_number}
use Rattle.reading.specs.Tokens.{Tok, open', close', and', or', implies', until', not', next', always', eventually', true', false', name'}
use Rattle.reading.specs.Rows.{Row, ends, stops, more}
use Rattle.protocol.specs.Answers.{refused_text}

abbrev pub kind_text : Tok → List ℕ
kind_text open' = codes "open"
kind_text close' = codes "close"
kind_text and' = codes "and"
kind_text or' = codes "or"
kind_text implies' = codes "implies"
kind_text until' = codes "until"
kind_text not' = codes "not"
kind_text next' = codes "next"
kind_text always' = codes "always"
kind_text eventually' = codes "eventually"
kind_text true' = codes "true"
kind_text false' = codes "false"
kind_text (name' w) = codes "name " ++ w

abbrev pub token_line : Tok → ℕ → List ℕ
token_line t p = decimal p ++ (codes " " ++ (kind_text t ++ codes "\n"))

-- each token, then `LENGTH end` or the refusal
abbrev pub listed : Row → List ℕ
listed (ends m) = decimal m ++ codes " end\n"
listed (stops c p) = refused_text (word_number c) p ++ codes "\n"
listed (more t p s) = token_line t p ++ listed s

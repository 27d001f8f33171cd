-- Whether a text is a name, by its first token. Assumes nothing.
use Rattle.std.proofs.Common.{◌≡◌, ℕ, List, length, ap, ◌∙◌, Bor}
use Rattle.reading.specs.Tokens.{Lexed, lex}
use Rattle.book.specs.Names.{is_one_name, name_at}

pub named : (w u : Bor (List ℕ)) (at : ℕ) (a : Lexed) → u ≡ w → at ≡ 0 → a ≡ lex u.now at → name_at (length w.now) a ≡ is_one_name w.now
unfolding is_one_name
named w u at a p q e = ap (λ (x : Lexed). name_at (length w.now) x) (e ∙ ap (λ (x : Bor (List ℕ)). lex x.now at) p ∙ ap (λ (n : ℕ). lex w.now n) q)

-- What a listing has so far, and what is to come. Assumes nothing.
use Rattle.std.proofs.Common.{◌≡◌, ℕ, List, ◌++◌, sym, ap, ◌∙◌, append_assoc}
use Rattle.reading.specs.Tokens.{Tok}
use Rattle.reading.specs.Rows.{Row, more}
use Rattle.protocol.specs.Listings.{token_line, listed}

-- the listing goes on by one token
pub one_more : (o : List ℕ) (t : Tok) (p : ℕ) {s u : Row} {out all : List ℕ} → s ≡ more t p u → out ≡ o ++ token_line t p → o ++ listed s ≡ all → out ++ listed u ≡ all
one_more o t p {u = u} e f inv = ap (λ (x : List ℕ). x ++ listed u) f ∙ append_assoc o (token_line t p) (listed u) ∙ sym (ap (λ (x : Row). o ++ listed x) e) ∙ inv

-- and ends
pub last : (o : List ℕ) (end : Row) {s : Row} {out all : List ℕ} → s ≡ end → out ≡ o ++ listed end → o ++ listed s ≡ all → out ≡ all
last o end e f inv = f ∙ sym (ap (λ (x : Row). o ++ listed x) e) ∙ inv

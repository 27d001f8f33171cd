-- A token lies past the cursor and within the text. Assumes nothing.
use Rattle.std.proofs.Common.{◌≡◌, ℕ, suc, ◌+◌, ◌-◌, ◌<◌, ◌≤◌, true, ltb, List, [], ◌∷◌, length, drop, Some, None, Option, subst, arith, length-drop}
use Rattle.std.specs.List.{prefix_len}
use Rattle.std.proofs.lemmas.List.Sums.{prefix_len-le-length}
use Rattle.std.proofs.lemmas.Bool.{cond_both, false≢true}
use Rattle.std.proofs.lemmas.Bool.Decides.{nat_tests}
use Rattle.reading.specs.declared.token.Token.{Token}
use Rattle.reading.specs.Tokens.{Tok, Head, nothing, some, bad, is_blank, word_byte, lower_byte, symbol_of, marked, word, arrow, classify, Lexed, finished, token, refused, placed, lex}

abbrev Fit : Head → ℕ → Type 0
Fit nothing m = Unit {0}
Fit (some t n) m = (0 < n) × (n ≤ m)
Fit (bad e) m = Unit {0}

fit_symbol : (o : Option Token) (m : ℕ) → Fit (marked o) (suc m)
fit_symbol (Some t) m = (omega arith, omega arith)
fit_symbol None m = tt

fit_word : (s : List ℕ) (n : ℕ) → 0 < n → n ≤ length s → Fit (word s n) (length s)
fit_word s n h k = cond_both (ltb 16 n) _ _ (λ x. Fit x (length s)) (λ e. tt) (λ e. (h, k))

fit_arrow : (b : ℕ) (bs : List ℕ) → arrow b bs ≡ true → 2 ≤ length (b ∷ bs)
fit_arrow b [] e = absurd (false≢true e)
fit_arrow b (c ∷ cs) e = omega arith

first_word : (b : ℕ) (bs : List ℕ) → lower_byte b ≡ true → 0 < prefix_len word_byte (b ∷ bs)
first_word b bs e = grind (arith, nat_tests)

fit : (s : List ℕ) → Fit (classify s) (length s)
fit [] = tt
fit (b ∷ bs) =
    cond_both (arrow b bs) _ _ (λ x. Fit x (length (b ∷ bs))) (λ e. (omega arith, fit_arrow b bs e))
    (λ _. cond_both (lower_byte b) _ _ (λ x. Fit x (length (b ∷ bs))) (λ e. fit_word (b ∷ bs) _ (first_word b bs e) (prefix_len-le-length word_byte (b ∷ bs))) (λ _. fit_symbol (symbol_of b) (length bs)))

pub record Ahead (text : List ℕ) (at p a : ℕ) : Type 0 where
  pub from : at ≤ p
  pub past : p < a
  pub within : a ≤ length text

abbrev Lies : List ℕ → ℕ → Lexed → Type 0
Lies text at (finished p) = Unit {0}
Lies text at (token t p a) = Ahead text at p a
Lies text at (refused c p) = Unit {0}

lies_at : (text : List ℕ) (at p : ℕ) (h : Head) → at ≤ p → p ≤ length text → Fit h (length text - p) → Lies text at (placed p h)
lies_at text at p nothing h k f = tt
lies_at text at p (some t n) h k f = record { from = h; past = omega arith; within = omega arith }
lies_at text at p (bad e) h k f = tt

pub lies : (text : List ℕ) (at : ℕ) → at ≤ length text → Lies text at (lex text at)
lies text at k =
    let n = prefix_len is_blank (drop at text) in
    let short = prefix_len-le-length is_blank (drop at text) in
    let long = length-drop at text in
    lies_at text at (at + n) (classify (drop (at + n) text)) (omega arith) (omega arith) (subst (Fit (classify (drop (at + n) text))) (length-drop (at + n) text) (fit (drop (at + n) text)))

pub lies_token : (text : List ℕ) (at : ℕ) {t : Tok} {p a : ℕ} → at ≤ length text → lex text at ≡ token t p a → Ahead text at p a
lies_token text at k e = subst (Lies text at) e (lies text at k)

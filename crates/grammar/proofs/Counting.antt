-- The tokens of a formula that is read, counted. Assumes nothing.
use Rattle.std.proofs.Common.{◌≡◌, ℕ, ◌+◌, ◌<◌, ◌≤◌, Bool, true, false, cond, ◌||◌, leb, List, refl, ap, ◌∙◌, arith}
use Rattle.std.proofs.lemmas.Bool.{cond_both}
use Rattle.std.proofs.lemmas.Bool.Decides.{nat_tests}
use Rattle.faults.specs.declared.causes.ReadingCause.TheVariants.{ManyTokens}
use Rattle.logic.specs.Form.{Form}
use Rattle.logic.specs.Basics.{ops, occurs}
use Rattle.reading.specs.Tokens.{Tok, open', close', and', or', implies', until', not', next', always', eventually', true', false', name'}
use Rattle.reading.specs.Rows as rows
use Rattle.reading.specs.Rows.{Row, row}
use Rattle.grammar.specs.Limits.{Stream, stop, more, limited, tokens}
use Rattle.grammar.specs.Grammar.{Rung, Reads, r_true, r_false, r_name, r_not, r_next, r_always, r_eventually, r_paren, r_until, r_and, r_or, r_implies, as_until, as_and, as_or, as_whole}
use Rattle.grammar.specs.Counts.{is_temporal, is_signal, ops_in, mentions}

-- what is read holds the operators of the tokens that it takes
pub ops_in_read : {names : List (List ℕ)} {l : Rung} {s u : Stream} {f : Form} → Reads names l s f u → ops_in s ≡ ops f + ops_in u
ops_in_read r_true = refl
ops_in_read r_false = refl
ops_in_read (r_name e) = refl
ops_in_read (r_not r) = let h = ops_in_read r in omega arith
ops_in_read (r_next r) = let h = ops_in_read r in omega arith
ops_in_read (r_always r) = let h = ops_in_read r in omega arith
ops_in_read (r_eventually r) = let h = ops_in_read r in omega arith
ops_in_read (r_paren r) = let h = ops_in_read r in omega arith
ops_in_read (r_until r q) = let h = ops_in_read r in let k = ops_in_read q in omega arith
ops_in_read (r_and r q) = let h = ops_in_read r in let k = ops_in_read q in omega arith
ops_in_read (r_or r q) = let h = ops_in_read r in let k = ops_in_read q in omega arith
ops_in_read (r_implies r q) = let h = ops_in_read r in let k = ops_in_read q in omega arith
ops_in_read (as_until r) = ops_in_read r
ops_in_read (as_and r) = ops_in_read r
ops_in_read (as_or r) = ops_in_read r
ops_in_read (as_whole r) = ops_in_read r

or_assoc : (a b c : Bool) → (a || (b || c)) ≡ ((a || b) || c)
or_assoc true b c = refl
or_assoc false b c = refl

-- what is read has the signals that the tokens name that it takes
module _ {names : List (List ℕ)} (g : ℕ) where
  pub mentions_read : {l : Rung} {s u : Stream} {f : Form} → Reads names l s f u → mentions names s g ≡ (occurs f g || mentions names u g)
  mentions_read r_true = refl
  mentions_read r_false = refl
  mentions_read (r_name {s = s} e) = ap (λ o. is_signal o g || mentions names s g) e
  mentions_read (r_not r) = mentions_read r
  mentions_read (r_next r) = mentions_read r
  mentions_read (r_always r) = mentions_read r
  mentions_read (r_eventually r) = mentions_read r
  mentions_read (r_paren r) = mentions_read r
  mentions_read (r_until {v = v} {f = e} {g = f} r q) = mentions_read r ∙ ap (λ b. occurs e g || b) (mentions_read q) ∙ or_assoc (occurs e g) (occurs f g) (mentions names v g)
  mentions_read (r_and {v = v} {f = e} {g = f} r q) = mentions_read r ∙ ap (λ b. occurs e g || b) (mentions_read q) ∙ or_assoc (occurs e g) (occurs f g) (mentions names v g)
  mentions_read (r_or {v = v} {f = e} {g = f} r q) = mentions_read r ∙ ap (λ b. occurs e g || b) (mentions_read q) ∙ or_assoc (occurs e g) (occurs f g) (mentions names v g)
  mentions_read (r_implies {v = v} {f = e} {g = f} r q) = mentions_read r ∙ ap (λ b. occurs e g || b) (mentions_read q) ∙ or_assoc (occurs e g) (occurs f g) (mentions names v g)
  mentions_read (as_until r) = mentions_read r
  mentions_read (as_and r) = mentions_read r
  mentions_read (as_or r) = mentions_read r
  mentions_read (as_whole r) = mentions_read r

-- ---- there are 32 operators at most
at_most_one : (b : Bool) → cond b 1 0 ≤ 1
at_most_one true = omega arith
at_most_one false = omega arith

below_limit : (n : ℕ) → leb 32 n ≡ false → n < 32
below_limit n e = grind (arith, nat_tests)

limited_more : (t : Tok) (p n : ℕ) (s : Stream) → n ≤ 32 → (n + 1 ≤ 32 → ops_in s + (n + 1) ≤ 32) → ops_in (cond (leb 32 n) (stop ManyTokens p) (more t p s)) + n ≤ 32
limited_more t p n s h k = cond_both (leb 32 n) _ _ (λ x. ops_in x + n ≤ 32) (λ e. omega arith) (λ e. let low = below_limit n e in let rest = k (omega arith) in let one = at_most_one (is_temporal t) in omega arith)

few : (n : ℕ) (r : Row) → n ≤ 32 → ops_in (limited n r) + n ≤ 32
few n (rows.ends m) h = omega arith
few n (rows.stops c p) h = omega arith
few n (rows.more open' p s) h = let k = few n s h in omega arith
few n (rows.more close' p s) h = let k = few n s h in omega arith
few n (rows.more and' p s) h = limited_more and' p n _ h (few (n + 1) s)
few n (rows.more or' p s) h = limited_more or' p n _ h (few (n + 1) s)
few n (rows.more implies' p s) h = limited_more implies' p n _ h (few (n + 1) s)
few n (rows.more until' p s) h = limited_more until' p n _ h (few (n + 1) s)
few n (rows.more not' p s) h = limited_more not' p n _ h (few (n + 1) s)
few n (rows.more next' p s) h = limited_more next' p n _ h (few (n + 1) s)
few n (rows.more always' p s) h = limited_more always' p n _ h (few (n + 1) s)
few n (rows.more eventually' p s) h = limited_more eventually' p n _ h (few (n + 1) s)
few n (rows.more true' p s) h = limited_more true' p n _ h (few (n + 1) s)
few n (rows.more false' p s) h = limited_more false' p n _ h (few (n + 1) s)
few n (rows.more (name' w) p s) h = limited_more (name' w) p n _ h (few (n + 1) s)

pub few_ops_in : (text : List ℕ) → ops_in (tokens text) ≤ 32
few_ops_in text = let k = few 0 (row text) (omega arith) in omega arith

-- What `next` answers, as the stream of tokens. Assumes nothing.
use Rattle.std.proofs.Common.{◌≡◌, ℕ, ◌≤◌, Bool, true, false, cond, List, length, Some, None, Ok, Err, IsErrAnd, Option, Result, sym, refl, ap, ◌∙◌}
use Rattle.std.proofs.lemmas.Bool.{cond-true, cond-false}
use Rattle.reading.specs.Tokens.{tok_of, Lexed, finished, token, refused, lex, answer_of}
use Rattle.reading.specs.declared.token.Placed.{Placed}
use Rattle.faults.specs.declared.fault.Fault.{Fault}
use Rattle.faults.specs.declared.causes.WordCause.{WordCause}
use Rattle.faults.specs.declared.causes.ReadingCause.TheVariants.{Words, ManyTokens}
use Rattle.faults.specs.declared.causes.ReadingCause.{ReadingCause}
use Rattle.reading.specs.Rows.{onward, row_from}
use Rattle.reading.proofs.Rows.{row_unfolds}
use Rattle.grammar.specs.Limits.{Stream, end, stop, more, is_too_many, tally, limited}
use Rattle.grammar.specs.Ahead.{ahead_on, Fetched}

-- a count that is given, and one that is refused
counted : {E : Type 0} (b : Bool) (k m : ℕ) (f : E) → Ok m ≡ cond b (Err f) (Ok k) → (b ≡ false) × (m ≡ k)
counted true k m f e = cc
counted false k m f e = (refl, cc)

too_many : {E : Type 0} (b : Bool) (k : ℕ) (f e : E) → Err e ≡ cond b (Err f) (Ok k) → (b ≡ true) × (e ≡ f)
too_many true k f e h = (refl, cc)
too_many false k f e h = cc

-- the exit of a `?`
pub fetched_err : (r : Result (Unit {0}) (Fault ReadingCause)) (e : Fault ReadingCause) (a s : Stream) → IsErrAnd r (λ y. y ≡ e) → a ≡ stop e.cause e.place → Fetched r a s
fetched_err (Ok x) e a s h k = absurd h
fetched_err (Err y) e a s h k = k ∙ ap (λ (z : Fault ReadingCause). stop z.cause z.place) (sym h)

module _ (text next-text : List ℕ) (same : next-text ≡ text) (at next-at n : ℕ) (within : at ≤ length text) where
  by_lex : (l : Lexed) → l ≡ lex text at → limited n (row_from text at) ≡ limited n (onward (length text) (row_from text) l)
  by_lex l e = ap (limited n) (row_unfolds text at within ∙ ap (onward (length text) (row_from text)) (sym e))

  pub told_none : (o : Option Placed) (s : Stream) → ((p : Placed) → o ≡ Some p → ⊥) → answer_of (Ok o) next-at ≡ lex text at → limited n (row_from text at) ≡ ahead_on o (length next-text) s
  told_none None s h e = by_lex (finished next-at) e ∙ ap (λ x. end (length x)) (sym same)
  told_none (Some p) s h e = absurd (h p refl)

  some_token : (o : Option Placed) (p : Placed) → o ≡ Some p → answer_of (Ok o) next-at ≡ lex text at → limited n (row_from text at) ≡ limited n (onward (length text) (row_from text) (token (tok_of p.token) p.place next-at))
  some_token o p is e = by_lex (token (tok_of p.token) p.place next-at) (ap (λ x. answer_of (Ok x) next-at) (sym is) ∙ e)

  -- the count of the token p, or its refusal
  abbrev Counted : Placed → Result ℕ (Fault ReadingCause) → Type 0
  Counted p r = r ≡ cond (is_too_many (tok_of p.token) n) (Err (record { cause = ManyTokens; place = p.place })) (Ok (tally (tok_of p.token) n))

  pub told_some : (o : Option Placed) (p : Placed) (m : ℕ) → o ≡ Some p → answer_of (Ok o) next-at ≡ lex text at → Counted p (Ok m) → limited n (row_from text at) ≡ ahead_on o (length next-text) (limited m (row_from next-text next-at))
  told_some o p m is e t =
      let c = counted _ _ m _ t in
      some_token o p is e
      ∙ cond-false (is_too_many (tok_of p.token) n) _ _ c.0
      ∙ (λ i. more (tok_of p.token) p.place (limited (sym c.1 i) (row_from (sym same i) next-at)))
      ∙ ap (λ x. ahead_on x (length next-text) (limited m (row_from next-text next-at))) (sym is)

  pub told_long : (o : Option Placed) (p : Placed) (f : Fault ReadingCause) → o ≡ Some p → answer_of (Ok o) next-at ≡ lex text at → Counted p (Err f) → limited n (row_from text at) ≡ stop f.cause f.place
  told_long o p f is e t =
      let c = too_many _ _ _ f t in
      some_token o p is e ∙ cond-true (is_too_many (tok_of p.token) n) _ _ c.0 ∙ ap (λ (z : Fault ReadingCause). stop z.cause z.place) (sym c.1)

  pub told_bad : (w : Fault WordCause) → answer_of (Err w) next-at ≡ lex text at → limited n (row_from text at) ≡ stop (Words w.cause) w.place
  told_bad w e = by_lex (refused w.cause w.place) e

-- One token after another. Assumes nothing.
use Rattle.std.proofs.Common.{◌≡◌, ℕ, zero, suc, ◌+◌, ◌-◌, ◌≤◌, List, length, drop, Some, None, Ok, Err, Option, sym, refl, ap, ◌∙◌, arith}
use Rattle.std.specs.List.{prefix_len}
use Rattle.std.proofs.lemmas.List.{drop_all}
use Rattle.faults.specs.declared.causes.WordCause.{WordCause}
use Rattle.faults.specs.declared.fault.Fault.{Fault}
use Rattle.reading.specs.declared.token.Placed.{Placed}
use Rattle.reading.specs.Tokens.{Tok, tok_of, is_blank, classify, placed, Lexed, finished, token, refused, lex, answer_of}
use Rattle.reading.specs.Rows.{Row, ends, stops, more, onward, feed, row_from}
use Rattle.reading.proofs.Lexing.{lies_token}

module _ (text : List ℕ) where
  past_the_end : (at k : ℕ) → length text ≤ at → feed (suc k) text at ≡ ends (length text)
  past_the_end at k h =
      let p = at + prefix_len is_blank (drop at text) in
      ap (λ s. onward (length text) (λ a. feed k text a) (placed p (classify s))) (drop_all p text (omega arith))

  onward_same : (go on : ℕ → Row) (l : Lexed) → ((t : Tok) (p a : ℕ) → l ≡ token t p a → go a ≡ on a) → onward (length text) go l ≡ onward (length text) on l
  onward_same go on (finished p) h = refl
  onward_same go on (token t p a) h = ap (more t p) (h t p a refl)
  onward_same go on (refused c p) h = refl

  enough : (k j at : ℕ) → length text - at ≤ k → length text - at ≤ j → at ≤ length text → feed k text at ≡ feed j text at
  enough zero zero at a b h = refl
  enough zero (suc j) at a b h = sym (past_the_end at j (omega arith))
  enough (suc k) zero at a b h = past_the_end at k (omega arith)
  enough (suc k) (suc j) at a b h =
      onward_same (λ x. feed k text x) (λ x. feed j text x) (lex text at)
      (λ t p x e. let w = lies_token text at h e in enough k j x (omega arith) (omega arith) w.within)

  -- the row from a cursor, by the token that comes next
  pub row_unfolds : (at : ℕ) → at ≤ length text → row_from text at ≡ onward (length text) (row_from text) (lex text at)
  unfolding row_from
  row_unfolds at h =
      enough (length text - at) (suc (length text - at)) at (omega arith) (omega arith) h
      ∙ onward_same (λ x. feed (length text - at) text x) (row_from text) (lex text at)
      (λ t p x e. let w = lies_token text at h e in enough (length text - at) (length text - x) x (omega arith) (omega arith) w.within)

  -- the row from a cursor, by what `next` answered there
  module _ (at after : ℕ) (within : at ≤ length text) where
    pub row_token : (o : Option Placed) (p : Placed) → o ≡ Some p → answer_of (Ok o) after ≡ lex text at → row_from text at ≡ more (tok_of p.token) p.place (row_from text after)
    row_token o p is e = row_unfolds at within ∙ ap (onward (length text) (row_from text)) (sym e ∙ ap (λ (x : Option Placed). answer_of (Ok x) after) is)

    pub row_ends : (o : Option Placed) → o ≡ None → answer_of (Ok o) after ≡ lex text at → row_from text at ≡ ends (length text)
    row_ends o is e = row_unfolds at within ∙ ap (onward (length text) (row_from text)) (sym e ∙ ap (λ (x : Option Placed). answer_of (Ok x) after) is)

    pub row_stops : (w : Fault WordCause) → answer_of (Err w) after ≡ lex text at → row_from text at ≡ stops w.cause w.place
    row_stops w e = row_unfolds at within ∙ ap (onward (length text) (row_from text)) (sym e)

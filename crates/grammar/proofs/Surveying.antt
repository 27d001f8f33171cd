-- A survey from its first token to its last. Assumes nothing.
use Rattle.std.proofs.Common.{◌≡◌, ℕ, ◌+◌, ◌<◌, ◌≤◌, Bool, true, false, ◌||◌, List, length, get_or, None, sym, refl, ap, ◌∙◌, arith}
use Rattle.logic.specs.Form.{Form}
use Rattle.grammar.specs.declared.state.State.{State}
use Rattle.grammar.specs.declared.stand.Stand.{Stand}
use Rattle.grammar.specs.declared.contents.Contents.{Contents}
use Rattle.grammar.specs.Limits.{end, tokens}
use Rattle.grammar.specs.Scan.{verdict}
use Rattle.grammar.specs.Stands.{depth_of, scan_at}
use Rattle.grammar.specs.Grammar.{Derives}
use Rattle.grammar.specs.Counts.{ops_in, mentions}
use Rattle.grammar.specs.Answers.{Tells}
use Rattle.grammar.specs.Left.{left}
use Rattle.grammar.specs.Ahead.{ahead_on, after, stream_of}
use Rattle.grammar.proofs.Counting.{ops_in_read, mentions_read}

-- what the tokens so far tell, and what is left, make up the whole text
pub record Sofar (names : List (List ℕ)) (text : List ℕ) (s : State) (at : Stand) (seen : Contents) : Type 0 where
  pub same_text : s.reader.text.now ≡ text
  pub fits : verdict names text ≡ scan_at names (stream_of s) at
  pub shallow : depth_of at + left s ≤ length text
  pub counted : seen.operators + ops_in (stream_of s) ≡ ops_in (tokens text)
  pub marked : (g : ℕ) → g < 16 → (get_or seen.signals g false || mentions names (stream_of s) g) ≡ mentions names (tokens text) g

or_false : (a : Bool) → (a || false) ≡ a
or_false true = refl
or_false false = refl

module _ (names : List (List ℕ)) (text : List ℕ) (s : State) (at : Stand) (seen : Contents) (sofar : Sofar names text s at seen) where
  -- ---- at the end of the text
  module _ (is : s.ahead ≡ None) where
    over : stream_of s ≡ end (length text)
    over = ap (λ o. ahead_on o (length s.reader.text.now) (after s)) is ∙ ap (λ t. end (length t)) sofar.same_text

    pub at_end : verdict names text ≡ scan_at names (end (length text)) at
    at_end = sofar.fits ∙ ap (λ x. scan_at names x at) over

    pub tells : (f : Form) → Derives names text f → Tells seen f
    tells f d =
        let whole-count = sofar.counted in
        let none_left = ap ops_in over in
        let taken = ops_in_read d.1 in
        record {
          operators = omega arith;
          signals = λ g low.
              sym (or_false (get_or seen.signals g false))
              ∙ ap (λ x. get_or seen.signals g false || mentions names x g) (sym over)
              ∙ sofar.marked g low ∙ mentions_read g d.1 ∙ or_false _;
        }

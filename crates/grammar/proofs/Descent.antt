-- Every stream is read at every level as far as it can be, or the scan refuses it. Assumes nothing.
use Rattle.std.proofs.Common.{◌≡◌, ℕ, zero, suc, ◌+◌, ◌*◌, ◌<◌, ◌≤◌, true, false, cond, eqb, List, Some, None, Option, refl, ap, ◌∙◌, arith}
use Rattle.std.proofs.lemmas.Bool.{cond-false, ne_eqb}
use Rattle.faults.specs.declared.causes.ReadingCause.{ReadingCause}
use Rattle.faults.specs.declared.causes.ReadingCause.TheVariants.{Misfit, Unfinished, Undeclared}
use Rattle.logic.specs.Form.{Form, yes_form, no_form, signal, not_form, next_form, always, eventually}
use Rattle.reading.specs.Tokens.{Tok, open', close', and', or', implies', until', not', next', always', eventually', true', false', name'}
use Rattle.grammar.specs.declared.state.Infix.{Infix}
use Rattle.grammar.specs.declared.state.Infix.TheVariants as ops
use Rattle.grammar.specs.Signals.{signal_named}
use Rattle.grammar.specs.Limits.{Stream, end, stop, more, tokens}
use Rattle.grammar.specs.Scan.{Verdict, granted, refusal, named, scan, verdict}
use Rattle.grammar.specs.Grammar.{Rung, atom, untils, ands, ors, whole, Reads, Derives, r_true, r_false, r_name, r_not, r_next, r_always, r_eventually, r_paren, r_until, r_and, r_or, r_implies, as_until, as_and, as_or, as_whole}
use Rattle.grammar.specs.Ahead.{op_rank, infix_form}
use Rattle.grammar.specs.Parts.{rung_rank}
use Rattle.grammar.proofs.Through.{through}
use Rattle.grammar.proofs.Reading.{Again, some_rank}
use Rattle.grammar.proofs.Unique.{len, shrinks}

-- ---- which operator comes next
data View : Stream → Type 0 where
  an_until : (p : ℕ) (x : Stream) → View (more until' p x)
  an_and : (p : ℕ) (x : Stream) → View (more and' p x)
  an_or : (p : ℕ) (x : Stream) → View (more or' p x)
  an_implies : (p : ℕ) (x : Stream) → View (more implies' p x)
  none : {u : Stream} → op_rank u ≡ 5 → View u

view : (u : Stream) → View u
view (end m) = none refl
view (stop c p) = none refl
view (more open' p x) = none refl
view (more close' p x) = none refl
view (more and' p x) = an_and p x
view (more or' p x) = an_or p x
view (more implies' p x) = an_implies p x
view (more until' p x) = an_until p x
view (more not' p x) = none refl
view (more next' p x) = none refl
view (more always' p x) = none refl
view (more eventually' p x) = none refl
view (more true' p x) = none refl
view (more false' p x) = none refl
view (more (name' w) p x) = none refl

-- the operator t comes next, or one that binds less than n does
data Next (t : Tok) (n : ℕ) : Stream → Type 0 where
  on : (p : ℕ) (x : Stream) → Next t n (more t p x)
  off : {u : Stream} → n < op_rank u → Next t n u

next_until : (u : Stream) → View u → 0 < op_rank u → Next until' 1 u
next_until u (an_until p x) h = on p x
next_until u (an_and p x) h = off (omega arith)
next_until u (an_or p x) h = off (omega arith)
next_until u (an_implies p x) h = off (omega arith)
next_until u (none e) h = off (omega arith)

next_and : (u : Stream) → View u → 1 < op_rank u → Next and' 2 u
next_and u (an_until p x) h = absurd (omega arith)
next_and u (an_and p x) h = on p x
next_and u (an_or p x) h = off (omega arith)
next_and u (an_implies p x) h = off (omega arith)
next_and u (none e) h = off (omega arith)

next_or : (u : Stream) → View u → 2 < op_rank u → Next or' 3 u
next_or u (an_until p x) h = absurd (omega arith)
next_or u (an_and p x) h = absurd (omega arith)
next_or u (an_or p x) h = on p x
next_or u (an_implies p x) h = off (omega arith)
next_or u (none e) h = off (omega arith)

next_implies : (u : Stream) → View u → 3 < op_rank u → Next implies' 4 u
next_implies u (an_until p x) h = absurd (omega arith)
next_implies u (an_and p x) h = absurd (omega arith)
next_implies u (an_or p x) h = absurd (omega arith)
next_implies u (an_implies p x) h = on p x
next_implies u (none e) h = off (omega arith)

module _ (names : List (List ℕ)) where
  data Outcome (l : Rung) (s : Stream) : Type 0 where
    taken : (f : Form) (u : Stream) → Reads names l s f u → rung_rank l < op_rank u → Outcome l s
    wrong : (c : ReadingCause) (p : ℕ) → ((d : ℕ) → scan names s true d ≡ refusal c p) → Outcome l s

  -- ---- an operand
  prefixed : {s : Stream} (t : Tok) (p : ℕ) (make : Form → Form) → ((f : Form) (u : Stream) → Reads names atom s f u → Reads names atom (more t p s) (make f) u) → ((d : ℕ) → scan names (more t p s) true d ≡ scan names s true d) → Outcome atom s → Outcome atom (more t p s)
  prefixed t p make by same (taken f u r h) = taken (make f) u (by f u r) h
  prefixed t p make by same (wrong c q w) = wrong c q (λ d. same d ∙ w d)

  unshut : (m d : ℕ) → cond (eqb (d + 1) 0) granted (refusal Unfinished m) ≡ refusal Unfinished m
  unshut m d = cond-false (eqb (d + 1) 0) _ _ (ne_eqb (d + 1) 0 (λ e. omega arith))

  shut : (p : ℕ) (s : Stream) (f : Form) (u : Stream) → Reads names whole s f u → 4 < op_rank u → Outcome atom (more open' p s)
  shut p s f (end m) r h = wrong Unfinished m (λ d. through r (d + 1) ∙ unshut m d)
  shut p s f (stop c q) r h = wrong c q (λ d. through r (d + 1))
  shut p s f (more open' q u) r h = wrong Misfit q (λ d. through r (d + 1))
  shut p s f (more close' q u) r h = taken f u (r_paren r) (some_rank u)
  shut p s f (more and' q u) r h = absurd (omega arith)
  shut p s f (more or' q u) r h = absurd (omega arith)
  shut p s f (more implies' q u) r h = absurd (omega arith)
  shut p s f (more until' q u) r h = absurd (omega arith)
  shut p s f (more not' q u) r h = wrong Misfit q (λ d. through r (d + 1))
  shut p s f (more next' q u) r h = wrong Misfit q (λ d. through r (d + 1))
  shut p s f (more always' q u) r h = wrong Misfit q (λ d. through r (d + 1))
  shut p s f (more eventually' q u) r h = wrong Misfit q (λ d. through r (d + 1))
  shut p s f (more true' q u) r h = wrong Misfit q (λ d. through r (d + 1))
  shut p s f (more false' q u) r h = wrong Misfit q (λ d. through r (d + 1))
  shut p s f (more (name' w) q u) r h = wrong Misfit q (λ d. through r (d + 1))

  opened : (p : ℕ) (s : Stream) → Outcome whole s → Outcome atom (more open' p s)
  opened p s (taken f u r h) = shut p s f u r h
  opened p s (wrong c q w) = wrong c q (λ d. w (d + 1))

  a_name : (w : List ℕ) (p : ℕ) (s : Stream) (o : Option ℕ) → signal_named names w ≡ o → Outcome atom (more (name' w) p s)
  a_name w p s (Some g) e = taken (signal g) s (r_name e) (some_rank s)
  a_name w p s None e = wrong Undeclared p (λ d. ap (λ o. named o (scan names s false d) p) e)

  at_atom : (s : Stream) → ((x : Stream) → len x < len s → Outcome atom x) → ((x : Stream) → len x < len s → Outcome whole x) → Outcome atom s
  at_atom (end m) ih in' = wrong Unfinished m (λ d. refl)
  at_atom (stop c p) ih in' = wrong c p (λ d. refl)
  at_atom (more open' p s) ih in' = opened p s (in' s (omega arith))
  at_atom (more close' p s) ih in' = wrong Misfit p (λ d. refl)
  at_atom (more and' p s) ih in' = wrong Misfit p (λ d. refl)
  at_atom (more or' p s) ih in' = wrong Misfit p (λ d. refl)
  at_atom (more implies' p s) ih in' = wrong Misfit p (λ d. refl)
  at_atom (more until' p s) ih in' = wrong Misfit p (λ d. refl)
  at_atom (more not' p s) ih in' = prefixed not' p not_form (λ f u r. r_not r) (λ d. refl) (ih s (omega arith))
  at_atom (more next' p s) ih in' = prefixed next' p next_form (λ f u r. r_next r) (λ d. refl) (ih s (omega arith))
  at_atom (more always' p s) ih in' = prefixed always' p always (λ f u r. r_always r) (λ d. refl) (ih s (omega arith))
  at_atom (more eventually' p s) ih in' = prefixed eventually' p eventually (λ f u r. r_eventually r) (λ d. refl) (ih s (omega arith))
  at_atom (more true' p s) ih in' = taken yes_form s r_true (some_rank s)
  at_atom (more false' p s) ih in' = taken no_form s r_false (some_rank s)
  at_atom (more (name' w) p s) ih in' = a_name w p s (signal_named names w) refl

  -- ---- the operator t at the level l, over operands of the level k
  module _ (k l : Rung) (op : Infix) (t : Tok) (again : Again t) (next : (u : Stream) → rung_rank k < op_rank u → Next t (rung_rank l) u) (lift : (s u : Stream) (f : Form) → Reads names k s f u → Reads names l s f u) where
    -- grouping to the right
    module _ (make : (p : ℕ) (s x u : Stream) (f g : Form) → Reads names k s f (more t p x) → Reads names l x g u → Reads names l s (infix_form op f g) u) (s : Stream) (below : (x : Stream) → len x < len s → Outcome l x) where
      right_joined : (f : Form) (p : ℕ) (x : Stream) → Reads names k s f (more t p x) → Outcome l x → Outcome l s
      right_joined f p x r (taken g u q h) = taken (infix_form op f g) u (make p s x u f g r q) h
      right_joined f p x r (wrong c q w) = wrong c q (λ d. through r d ∙ again p _ _ ∙ w d)

      right_next : (f : Form) (u : Stream) → Reads names k s f u → Next t (rung_rank l) u → Outcome l s
      right_next f u r (on p x) = right_joined f p x r (below x (let short = shrinks names r in omega arith))
      right_next f u r (off h) = taken f u (lift s u f r) h

      at_right : Outcome k s → Outcome l s
      at_right (taken f u r h) = right_next f u r (next u h)
      at_right (wrong c p w) = wrong c p w

    -- grouping to the left
    module _ (make : (p : ℕ) (s x u : Stream) (f g : Form) → Reads names l s f (more t p x) → Reads names k x g u → Reads names l s (infix_form op f g) u) (s : Stream) (below : (x : Stream) → len x < len s → Outcome k x) where
      left_joined : (n : ℕ) → ((f : Form) (u : Stream) → Reads names l s f u → rung_rank k < op_rank u → len u < n → Outcome l s) → (f : Form) (p : ℕ) (x : Stream) → Reads names l s f (more t p x) → len x ≤ n → Outcome k x → Outcome l s
      left_joined n go f p x r b (taken g u q h) = go (infix_form op f g) u (make p s x u f g r q) h (let short = shrinks names q in omega arith)
      left_joined n go f p x r b (wrong c q w) = wrong c q (λ d. through r d ∙ again p _ _ ∙ w d)

      left_next : (n : ℕ) → ((f : Form) (u : Stream) → Reads names l s f u → rung_rank k < op_rank u → len u < n → Outcome l s) → (f : Form) (u : Stream) → Reads names l s f u → len u ≤ n → Next t (rung_rank l) u → Outcome l s
      left_next n go f u r b (on p x) = left_joined n go f p x r (omega arith) (below x (let short = shrinks names r in omega arith))
      left_next n go f u r b (off h) = taken f u r h

      left_row : (n : ℕ) (f : Form) (u : Stream) → Reads names l s f u → rung_rank k < op_rank u → len u < n → Outcome l s
      left_row zero f u r h b = absurd (omega arith)
      left_row (suc n) f u r h b = left_next n (left_row n) f u r (omega arith) (next u h)

      at_left : Outcome k s → Outcome l s
      at_left (taken f u r h) = left_row (suc (len u)) f u (lift s u f r) h (omega arith)
      at_left (wrong c p w) = wrong c p w

  descend : (n : ℕ) (l : Rung) (s : Stream) → len s * 5 + rung_rank l < n → Outcome l s
  descend zero l s b = absurd (omega arith)
  descend (suc n) atom s b = at_atom s (λ x h. descend n atom x (omega arith)) (λ x h. descend n whole x (omega arith))
  descend (suc n) untils s b = at_right atom untils ops.Until until' (λ p x y. refl) (λ u. next_until u (view u)) (λ x u f r. as_until r) (λ p x y u f g r q. r_until r q) s (λ x h. descend n untils x (omega arith)) (descend n atom s (omega arith))
  descend (suc n) ands s b = at_left untils ands ops.And and' (λ p x y. refl) (λ u. next_and u (view u)) (λ x u f r. as_and r) (λ p x y u f g r q. r_and r q) s (λ x h. descend n untils x (omega arith)) (descend n untils s (omega arith))
  descend (suc n) ors s b = at_left ands ors ops.Or or' (λ p x y. refl) (λ u. next_or u (view u)) (λ x u f r. as_or r) (λ p x y u f g r q. r_or r q) s (λ x h. descend n ands x (omega arith)) (descend n ands s (omega arith))
  descend (suc n) whole s b = at_right ors whole ops.Implies implies' (λ p x y. refl) (λ u. next_implies u (view u)) (λ x u f r. as_whole r) (λ p x y u f g r q. r_implies r q) s (λ x h. descend n whole x (omega arith)) (descend n ors s (omega arith))

  -- ---- a whole text
  not_both : {X : Type 0} (c : ReadingCause) (p : ℕ) (v : Verdict) → v ≡ granted → v ≡ refusal c p → X
  not_both c p v e h = absurd (let z : ◌≡◌ {A = ℕ} 0 1 = cc in omega arith)

  ended : (s : Stream) (f : Form) (u : Stream) → Reads names whole s f u → 4 < op_rank u → scan names s true 0 ≡ granted → (g : Form) × ((m : ℕ) × Reads names whole s g (end m))
  ended s f (end m) r h e = (f, (m, r))
  ended s f (stop c q) r h e = not_both c q _ e (through r 0)
  ended s f (more open' q u) r h e = not_both Misfit q _ e (through r 0)
  ended s f (more close' q u) r h e = not_both Misfit q _ e (through r 0)
  ended s f (more and' q u) r h e = absurd (omega arith)
  ended s f (more or' q u) r h e = absurd (omega arith)
  ended s f (more implies' q u) r h e = absurd (omega arith)
  ended s f (more until' q u) r h e = absurd (omega arith)
  ended s f (more not' q u) r h e = not_both Misfit q _ e (through r 0)
  ended s f (more next' q u) r h e = not_both Misfit q _ e (through r 0)
  ended s f (more always' q u) r h e = not_both Misfit q _ e (through r 0)
  ended s f (more eventually' q u) r h e = not_both Misfit q _ e (through r 0)
  ended s f (more true' q u) r h e = not_both Misfit q _ e (through r 0)
  ended s f (more false' q u) r h e = not_both Misfit q _ e (through r 0)
  ended s f (more (name' w) q u) r h e = not_both Misfit q _ e (through r 0)

  read_whole : (s : Stream) → Outcome whole s → scan names s true 0 ≡ granted → (g : Form) × ((m : ℕ) × Reads names whole s g (end m))
  read_whole s (taken f u r h) e = ended s f u r h e
  read_whole s (wrong c p w) e = not_both c p _ e (w 0)

  pub granted_derives : (text : List ℕ) → verdict names text ≡ granted → (f : Form) × Derives names text f
  granted_derives text e = read_whole (tokens text) (descend (len (tokens text) * 5 + 5) whole (tokens text) (omega arith)) e

  pub derives_granted : (text : List ℕ) (f : Form) → Derives names text f → verdict names text ≡ granted
  derives_granted text f d = through d.1 0

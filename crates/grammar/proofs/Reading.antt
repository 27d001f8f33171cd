-- How the parts of a formula, read one after another, make the whole. Assumes nothing.
use Rattle.std.proofs.Common.{◌≡◌, ◌≢◌, ℕ, ◌+◌, ◌<◌, true, false, List, IsErrAnd, Ok, Err, Result, sym, refl, ap, ◌∙◌, subst, arith, MatchResult}
use Rattle.std.proofs.lemmas.Bool.{false≢true}
use Rattle.reading.specs.Tokens.{Tok, open', close', and', or', implies', until', not', next', always', eventually', true', false', name'}
use Rattle.logic.specs.declared.formula.Formula.{Formula}
use Rattle.faults.specs.declared.causes.ReadingCause.{ReadingCause}
use Rattle.faults.specs.declared.fault.Fault.{Fault}
use Rattle.grammar.specs.declared.unread.Unread.{Unread}
use Rattle.grammar.specs.declared.unread.Unread.TheVariants.{Refused, NoMemory}
use Rattle.grammar.specs.declared.state.State.{State}
use Rattle.grammar.specs.declared.state.Infix.{Infix}
use Rattle.grammar.specs.declared.state.Infix.TheVariants as ops
use Rattle.grammar.specs.declared.state.Prefix.{Prefix}
use Rattle.grammar.specs.declared.state.Prefix.TheVariants as pre
use Rattle.grammar.specs.declared.state.Due.{Due}
use Rattle.logic.specs.Form.{Form, form_of}
use Rattle.grammar.specs.Limits.{Stream, end, stop, more}
use Rattle.grammar.specs.Scan.{Verdict, refusal, scan, ended_step}
use Rattle.grammar.specs.Grammar.{Rung, atom, whole, Reads, r_not, r_next, r_always, r_eventually, r_paren, r_until, r_and, r_or, r_implies, as_until, as_and, as_or, as_whole}
use Rattle.grammar.specs.Ahead.{op_rank, infix_tok, infix_rank, infix_form, prefix_tok, prefix_form, DueIs}
use Rattle.grammar.specs.Parts.{Starved, Wrong, rung_rank, rung_of, rung_under, to_the_right, Answered}
use Rattle.grammar.proofs.Through.{through}

-- ---- the exit of a `?`
-- each of these operators goes on to another operand
abbrev pub Again : Tok → Type 0
Again t = (p : ℕ) (x y : Verdict) → ended_step t p x y ≡ x

pub same_form : {names : List (List ℕ)} {l : Rung} {s u : Stream} {f g : Form} → g ≡ f → Reads names l s f u → Reads names l s g u
same_form {names} {l} {s} {u} e r = subst (λ x. Reads names l s x u) (sym e) r

module _ (names : List (List ℕ)) (plenty : Type 0) where
  pub broken : (l : Rung) (s u : Stream) (r : Result Formula Unread) (e : Unread) → IsErrAnd r (λ y. y ≡ e) → Wrong names plenty e s → Answered names plenty l s u r
  broken l s u (Ok f) e b w = absurd b
  broken l s u (Err y) e b w = subst (λ z. Wrong names plenty z s) (sym b) w

  starved : (e : Unread) (s : Stream) → Starved plenty e → Wrong names plenty e s
  starved e s h = subst (λ z. Wrong names plenty z s) (sym h.0) h.1

  -- ---- an operand, an operator and another operand
  pub wrong_advance : {l : Rung} {s u a : Stream} {f : Form} (t : Tok) (p : ℕ) (e : Fault ReadingCause) → Again t → Reads names l s f u → u ≡ more t p a → a ≡ stop e.cause e.place → Wrong names plenty (Refused e) s
  wrong_advance t p e again r on bad = λ d. through r d ∙ ap (λ x. scan names x false d) on ∙ again p _ _ ∙ ap (λ x. scan names x true d) bad

  pub wrong_right : {l : Rung} {s u a m : Stream} {f : Form} (t : Tok) (p : ℕ) (e : Unread) → Again t → Reads names l s f u → u ≡ more t p a → a ≡ m → Wrong names plenty e m → Wrong names plenty e s
  wrong_right t p (Refused e) again r on next w = λ d. through r d ∙ ap (λ x. scan names x false d) on ∙ again p _ _ ∙ ap (λ x. scan names x true d) next ∙ w d
  wrong_right t p NoMemory again r on next w = w

-- ---- an operator, at its level and at the one under it
pub again : (op : Infix) → Again (infix_tok op)
again ops.Implies p x y = refl
again ops.Or p x y = refl
again ops.And p x y = refl
again ops.Until p x y = refl

pub beyond : (op : Infix) (n : ℕ) → rung_rank (rung_under op) < n → n ≢ infix_rank op → rung_rank (rung_of op) < n
beyond ops.Implies n h k = omega arith
beyond ops.Or n h k = omega arith
beyond ops.And n h k = omega arith
beyond ops.Until n h k = omega arith

module _ (names : List (List ℕ)) where
  pub lift : (op : Infix) {s u : Stream} {f : Form} → Reads names (rung_under op) s f u → Reads names (rung_of op) s f u
  lift ops.Implies r = as_whole r
  lift ops.Or r = as_or r
  lift ops.And r = as_and r
  lift ops.Until r = as_until r

  make_right : (op : Infix) → to_the_right op ≡ true → {p : ℕ} {x y z : Stream} {f g : Form} → Reads names (rung_under op) x f (more (infix_tok op) p y) → Reads names (rung_of op) y g z → Reads names (rung_of op) x (infix_form op f g) z
  make_right ops.Implies e r q = r_implies r q
  make_right ops.Or e r q = absurd (false≢true e)
  make_right ops.And e r q = absurd (false≢true e)
  make_right ops.Until e r q = r_until r q

  make_left : (op : Infix) → to_the_right op ≡ false → {p : ℕ} {x y z : Stream} {f g : Form} → Reads names (rung_of op) x f (more (infix_tok op) p y) → Reads names (rung_under op) y g z → Reads names (rung_of op) x (infix_form op f g) z
  make_left ops.Implies e r q = absurd (false≢true (sym e))
  make_left ops.Or e r q = r_or r q
  make_left ops.And e r q = r_and r q
  make_left ops.Until e r q = absurd (false≢true (sym e))

  shifted : {l : Rung} {s u a m : Stream} {f : Form} (t : Tok) (p : ℕ) → u ≡ more t p a → a ≡ m → Reads names l s f u → Reads names l s f (more t p m)
  shifted {l} {s} {f = f} t p on next r = subst (Reads names l s f) (on ∙ ap (more t p) next) r

  pub joined_right : (op : Infix) → to_the_right op ≡ true → (p : ℕ) {s u a m v : Stream} {f g : Form} → Reads names (rung_under op) s f u → u ≡ more (infix_tok op) p a → a ≡ m → Reads names (rung_of op) m g v → Reads names (rung_of op) s (infix_form op f g) v
  joined_right op e p r on next q = make_right op e (shifted (infix_tok op) p on next r) q

  pub joined_left : (op : Infix) → to_the_right op ≡ false → (p : ℕ) {s u a m v : Stream} {f g : Form} → Reads names (rung_of op) s f u → u ≡ more (infix_tok op) p a → a ≡ m → Reads names (rung_under op) m g v → Reads names (rung_of op) s (infix_form op f g) v
  joined_left op e p r on next q = make_left op e (shifted (infix_tok op) p on next r) q

-- what is made of what was read, or want of memory
pub made : (names : List (List ℕ)) (plenty : Type 0) (l : Rung) (s v : Stream) (f : Form) (r : Result Formula Unread) → Reads names l s f v → rung_rank l < op_rank v → MatchResult r (λ h. form_of h ≡ f) (λ e. Starved plenty e) → Answered names plenty l s v r
made names plenty l s v f (Ok h) q k e = (same_form e q, k)
made names plenty l s v f (Err y) q k e = starved names plenty y s e

-- ---- an operand
pub begins : (s : State) (d e : Due) → d ≡ e → DueIs s (Ok d) → DueIs s (Ok e)
begins s d e is h = subst (λ x. DueIs s (Ok x)) is h

pub some_rank : (s : Stream) → 0 < op_rank s
some_rank (end m) = omega arith
some_rank (stop c p) = omega arith
some_rank (more open' p s) = omega arith
some_rank (more close' p s) = omega arith
some_rank (more and' p s) = omega arith
some_rank (more or' p s) = omega arith
some_rank (more implies' p s) = omega arith
some_rank (more until' p s) = omega arith
some_rank (more not' p s) = omega arith
some_rank (more next' p s) = omega arith
some_rank (more always' p s) = omega arith
some_rank (more eventually' p s) = omega arith
some_rank (more true' p s) = omega arith
some_rank (more false' p s) = omega arith
some_rank (more (name' w) p s) = omega arith

module _ (names : List (List ℕ)) (plenty : Type 0) where
  pub one_token : {s a u : Stream} {f : Form} (t : Tok) (p : ℕ) → Reads names atom (more t p u) f u → s ≡ more t p a → a ≡ u → Reads names atom s f u × (0 < op_rank u)
  one_token {u = u} {f = f} t p r on next = (subst (λ x. Reads names atom x f u) (sym (on ∙ ap (more t p) next)) r, some_rank u)

  prefixes : (o : Prefix) {p : ℕ} {m u : Stream} {f : Form} → Reads names atom m f u → Reads names atom (more (prefix_tok o) p m) (prefix_form o f) u
  prefixes pre.Not r = r_not r
  prefixes pre.Next r = r_next r
  prefixes pre.Always r = r_always r
  prefixes pre.Eventually r = r_eventually r

  pub prefix_read : {s a m u : Stream} {f : Form} (o : Prefix) (p : ℕ) → s ≡ more (prefix_tok o) p a → a ≡ m → Reads names atom m f u → Reads names atom s (prefix_form o f) u
  prefix_read {u = u} {f = f} o p on next r = subst (λ x. Reads names atom x (prefix_form o f) u) (sym (on ∙ ap (more (prefix_tok o) p) next)) (prefixes o r)

  pub paren_read : {s a m v u : Stream} {f : Form} (p q : ℕ) → s ≡ more open' p a → a ≡ m → Reads names whole m f v → v ≡ more close' q u → Reads names atom s f u × (0 < op_rank u)
  paren_read {m = m} {u = u} {f = f} p q on next r shut =
      (subst (λ x. Reads names atom x f u) (sym (on ∙ ap (more open' p) next)) (r_paren (subst (Reads names whole m f) shut r)), some_rank u)

  pub wrong_close : {s a m v : Stream} {f : Form} (p : ℕ) (e : Fault ReadingCause) → s ≡ more open' p a → a ≡ m → Reads names whole m f v → ((d : ℕ) → scan names v false (d + 1) ≡ refusal e.cause e.place) → Wrong names plenty (Refused e) s
  wrong_close p e on next r bad = λ d. ap (λ x. scan names x true d) on ∙ ap (λ x. scan names x true (d + 1)) next ∙ through r (d + 1) ∙ bad d

-- A rule from its first token to its last. Assumes nothing.
use Rattle.std.proofs.Common.{◌≡◌, ℕ, ◌<◌, false, List, sym, refl, ◌∙◌, subst, arith}
use Rattle.reading.specs.Tokens.{Tok, open', close', and', or', implies', until', not', next', always', eventually', true', false', name'}
use Rattle.faults.specs.declared.causes.ReadingCause.TheVariants.{Misfit}
use Rattle.reading.specs.Rows.{row_from}
use Rattle.logic.specs.Form.{Form}
use Rattle.grammar.specs.Limits.{Stream, end, more, limited, tokens}
use Rattle.grammar.specs.Scan.{refusal, granted, scan, verdict}
use Rattle.grammar.specs.Grammar.{whole, Reads, Derives}
use Rattle.grammar.specs.Ahead.{op_rank}
use Rattle.grammar.proofs.Through.{through}

pub begun : (text t : List ℕ) (at n : ℕ) (s : Stream) → t ≡ text → at ≡ 0 → n ≡ 0 → limited n (row_from t at) ≡ s → tokens text ≡ s
begun text t at n s e z k h = (λ i. limited (sym k i) (row_from (sym e i) (sym z i))) ∙ h

module _ (names : List (List ℕ)) (text : List ℕ) {s u : Stream} {f : Form} (start : tokens text ≡ s) (r : Reads names whole s f u) where
  from_start : (v : Stream) → u ≡ v → Reads names whole (tokens text) f v
  from_start v e = subst (λ x. Reads names whole x f v) (sym start) (subst (Reads names whole s f) e r)

  pub finished_at : (m : ℕ) → u ≡ end m → Derives names text f × (verdict names text ≡ granted)
  finished_at m e = ((m, from_start (end m) e), through (from_start (end m) e) 0)

  last : (t : Tok) (p : ℕ) (a : Stream) → 4 < op_rank (more t p a) → scan names (more t p a) false 0 ≡ refusal Misfit p
  last open' p a h = refl
  last close' p a h = refl
  last and' p a h = absurd (omega arith)
  last or' p a h = absurd (omega arith)
  last implies' p a h = absurd (omega arith)
  last until' p a h = absurd (omega arith)
  last not' p a h = refl
  last next' p a h = refl
  last always' p a h = refl
  last eventually' p a h = refl
  last true' p a h = refl
  last false' p a h = refl
  last (name' w) p a h = refl

  pub misfit_at : (t : Tok) (p : ℕ) (a : Stream) → 4 < op_rank u → u ≡ more t p a → verdict names text ≡ refusal Misfit p
  misfit_at t p a h e = through (from_start (more t p a) e) 0 ∙ last t p a (subst (λ x. 4 < op_rank x) e h)

-- What is read leaves an operand ended where one was due. Assumes nothing.
use Rattle.std.proofs.Common.{◌≡◌, ℕ, ◌+◌, ◌-◌, true, false, cond, eqb, List, refl, ap, ◌∙◌, arith}
use Rattle.std.proofs.lemmas.Bool.{cond-false, ne_eqb}
use Rattle.logic.specs.Form.{Form}
use Rattle.grammar.specs.Limits.{Stream}
use Rattle.grammar.specs.Scan.{scan, named, refusal}
use Rattle.grammar.specs.Grammar.{Rung, Reads, r_true, r_false, r_name, r_not, r_next, r_always, r_eventually, r_paren, r_until, r_and, r_or, r_implies, as_until, as_and, as_or, as_whole}
use Rattle.faults.specs.declared.causes.ReadingCause.TheVariants.{Misfit}

closed : (names : List (List ℕ)) (q : ℕ) (u : Stream) (d : ℕ) → cond (eqb (d + 1) 0) (refusal Misfit q) (scan names u false (d + 1 - 1)) ≡ scan names u false d
closed names q u d =
    let back : d + 1 - 1 ≡ d = omega arith in
    cond-false (eqb (d + 1) 0) _ _ (ne_eqb (d + 1) 0 (λ e. omega arith)) ∙ ap (scan names u false) back

pub through : {names : List (List ℕ)} {l : Rung} {s u : Stream} {f : Form} → Reads names l s f u → (d : ℕ) → scan names s true d ≡ scan names u false d
through r_true d = refl
through r_false d = refl
through {names} (r_name {p = p} {s = s} e) d = ap (λ o. named o (scan names s false d) p) e
through (r_not r) d = through r d
through (r_next r) d = through r d
through (r_always r) d = through r d
through (r_eventually r) d = through r d
through {names} (r_paren {q = q} {u = u} r) d = through r (d + 1) ∙ closed names q u d
through (r_until r q) d = through r d ∙ through q d
through (r_and r q) d = through r d ∙ through q d
through (r_or r q) d = through r d ∙ through q d
through (r_implies r q) d = through r d ∙ through q d
through (as_until r) d = through r d
through (as_and r) d = through r d
through (as_or r) d = through r d
through (as_whole r) d = through r d

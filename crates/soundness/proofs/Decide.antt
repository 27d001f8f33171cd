-- The two answers of decide. Assumes nothing.
use Rattle.std.proofs.Common.{◌≡◌, ℕ, true, eqb, List, arith}
use Rattle.std.proofs.lemmas.Bool.{eq-eqb, ne_eqb}
use Rattle.logic.specs.Runs.{Run}
use Rattle.logic.specs.Marks.{mark}
use Rattle.logic.specs.Form.{Form}
use Rattle.logic.specs.Truth.{Meets}
use Rattle.logic.specs.Basics.{all}
use Rattle.plant.specs.Meaning.{Meaning, Lawful}
use Rattle.plant.specs.Walks.{Walk, Fair, Follows, Runs}
use Rattle.tableau.specs.Machine.{tableau}
use Rattle.tableau.specs.Small.{Small}
use Rattle.joint.specs.Pair.{fits, joint}
use Rattle.joint.proofs.JointRuns.{joint_runs}
use Rattle.soundness.specs.Answers.{NoRun}
use Rattle.tableau.specs.MachineLawful.{machine_lawful}
use Rattle.soundness.proofs.Found.{found, meets_all}
use Rattle.soundness.proofs.Trace.{walk_likely}
use Rattle.soundness.proofs.Pairing.{trace_of, joint_trace}
use Rattle.soundness.proofs.Stands.{At, machine_trace}

abbrev pub NoWalk : Meaning → Type 0
NoWalk m = (w : ℕ → ℕ) → Walk m w → Fair m w → ⊥

-- a run that follows a fair walk of the joint is a run of the plant that meets every rule
pub run_right : (rs : List Form) (m : Meaning) → Small (all rs) → Lawful m → fits (tableau rs) m ≡ true
    → (w : ℕ → ℕ) → Walk (joint (tableau rs) m) w → Fair (joint (tableau rs) m) w → (σ : Run) → Follows (joint (tableau rs) m) σ w → Runs m σ × Meets σ rs
run_right rs m small law fit w walks fair σ follows =
    let r = (joint_runs (tableau rs) m (machine_lawful (all rs) small) law fit σ).0 (record { walk = w; walks = walks; fair = fair; follows = follows }) in
    (r.1, found rs small σ r.0)

-- a run that follows the walk: on exactly what is marked on
pub read : Meaning → (ℕ → ℕ) → Run
read m w j g = eqb (mark (m.marks (w j)) g) 1

pub read_follows : (m : Meaning) (w : ℕ → ℕ) → Follows m (read m w) w
unfolding read
read_follows m w j g l = (
  (λ e. eq-eqb (mark (m.marks (w j)) g) 1 e),
  (λ e. ne_eqb (mark (m.marks (w j)) g) 1 (λ h. omega arith)),
)

none_right : (rs : List Form) (m : Meaning) → Small (all rs) → Lawful m → fits (tableau rs) m ≡ true → NoWalk (joint (tableau rs) m) → NoRun rs m
none_right rs m small law fit none σ run meets =
    let f = all rs in
    let trace = joint_trace (tableau rs) m σ (At f small σ) (λ j s. run.walk j ≡ s) (machine_trace f small σ (meets_all σ rs meets)) (trace_of m law σ run) fit in
    walk_likely (joint (tableau rs) m) σ _ trace (λ r. none r.0 r.1 r.2)

-- the joint has no fair walk exactly when no run of the plant meets every rule
pub decide_right : (rs : List Form) (m : Meaning) → Small (all rs) → Lawful m → fits (tableau rs) m ≡ true
    → (NoWalk (joint (tableau rs) m) → NoRun rs m) × (NoRun rs m → NoWalk (joint (tableau rs) m))
decide_right rs m small law fit = (
  none_right rs m small law fit,
  (λ none w walks fair.
      let σ = read (joint (tableau rs) m) w in
      let r = run_right rs m small law fit w walks fair σ (read_follows (joint (tableau rs) m) w) in
      none σ r.0 r.1),
)

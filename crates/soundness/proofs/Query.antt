-- The answers of a query. Assumes nothing.
use Rattle.std.proofs.Common.{◌≡◌, ℕ, ◌+◌, ◌*◌, true, ◌&&◌, leb, List, ap, inl, inr}
use Rattle.std.proofs.lemmas.Bool.{both_ways, and_parts, cases_Bool, cond-false}
use Rattle.logic.specs.Form.{Form}
use Rattle.logic.specs.Basics.{all}
use Rattle.plant.specs.Meaning.{Meaning, Lawful}
use Rattle.plant.specs.Walks.{Walk, Fair}
use Rattle.tableau.specs.Machine.{tableau}
use Rattle.tableau.specs.Small.{Small}
use Rattle.plant.specs.Unfit.{unfit}
use Rattle.joint.specs.Pair.{fits, pair, joint}
use Rattle.joint.specs.PairLawful.{joint_lawful}
use Rattle.plant.specs.Path.{probe}
use Rattle.plant.specs.declared.probe.Value.{Value}
use Rattle.plant.specs.declared.probe.Value.TheVariants.{On, Off}
use Rattle.plant.specs.PathLawful.{probe_lawful}
use Rattle.joint.proofs.JointRuns.{joint_runs}
use Rattle.tableau.specs.MachineLawful.{machine_lawful}
use Rattle.soundness.proofs.Found.{found, meets_all}
use Rattle.soundness.proofs.Trace.{walk_likely}
use Rattle.soundness.proofs.Pairing.{trace_of, Both, joint_trace}
use Rattle.soundness.proofs.Stands.{At, machine_trace}
use Rattle.soundness.proofs.Decide.{NoWalk, read, read_follows}
use Rattle.soundness.specs.Answers.{NoRun, Never, Sometimes}
use Rattle.soundness.proofs.Probes.{probe_runs}

abbrev pub asked : List Form → Meaning → ℕ → ℕ → Value → Meaning
asked rs m i g v = joint (joint (tableau rs) m) (probe i g v)

fit_joint : (a b : Meaning) → (joint a b).fit ≡ true → fits a b ≡ true
fit_joint a b e = elim (cases_Bool (fits a b)) [
  | inl h ↦ h
  | inr h ↦ absurd (both_ways (joint a b).fit (ap (λ (m : Meaning). m.fit) (cond-false (fits a b) (pair a b) unfit h)) e)
]

left_fit : (a b : Meaning) → fits a b ≡ true → a.fit ≡ true
left_fit a b e = (and_parts a.fit (b.fit && (leb (a.states * b.states) 1048576 && leb (a.promises + b.promises) 64)) e).0

right_fit : (a b : Meaning) → fits a b ≡ true → b.fit ≡ true
right_fit a b e =
    let sizes = leb (a.states * b.states) 1048576 && leb (a.promises + b.promises) 64 in
    (and_parts b.fit sizes (and_parts a.fit (b.fit && sizes) e).1).0

module _ (rs : List Form) (m : Meaning) (small : Small (all rs)) (law : Lawful m) (i g : ℕ) (on : Value) (fit : (asked rs m i g on).fit ≡ true) where
  outer : fits (joint (tableau rs) m) (probe i g on) ≡ true
  outer = fit_joint (joint (tableau rs) m) (probe i g on) fit

  inner : fits (tableau rs) m ≡ true
  inner = fit_joint (tableau rs) m (left_fit (joint (tableau rs) m) (probe i g on) outer)

  probe_fit : (probe i g on).fit ≡ true
  probe_fit = right_fit (joint (tableau rs) m) (probe i g on) outer

  none : NoWalk (asked rs m i g on) → Never rs m i g on
  none gone σ run meets value =
      let f = all rs in
      let pr = (probe_runs i g on probe_fit σ).1 value in
      let A = λ (j s : ℕ). run.walk j ≡ s in
      let B = λ (j s : ℕ). pr.walk j ≡ s in
      let tm = trace_of m law σ run in
      let tt = machine_trace f small σ (meets_all σ rs meets) in
      let first = joint_trace (tableau rs) m σ (At f small σ) A tt tm inner in
      let whole = joint_trace (joint (tableau rs) m) (probe i g on) σ (Both (tableau rs) m σ (At f small σ) A tt tm) B first (trace_of (probe i g on) (probe_lawful i g on) σ pr) outer in
      walk_likely (asked rs m i g on) σ _ whole (λ r. gone r.0 r.1 r.2)

  some : (w : ℕ → ℕ) → Walk (asked rs m i g on) w → Fair (asked rs m i g on) w → Sometimes rs m i g on
  some w walks fair =
      let all_of = asked rs m i g on in
      let σ = read all_of w in
      let lt = machine_lawful (all rs) small in
      let r = (joint_runs (joint (tableau rs) m) (probe i g on) (joint_lawful (tableau rs) m lt law) (probe_lawful i g on) outer σ).0
      (record { walk = w; walks = walks; fair = fair; follows = read_follows all_of w }) in
      let q = (joint_runs (tableau rs) m lt law inner σ).0 r.0 in
      record { run = σ; runs = q.1; meets = found rs small σ q.0; there = (probe_runs i g on probe_fit σ).0 r.1 }

pub query_right : (rs : List Form) (m : Meaning) → Small (all rs) → Lawful m → (i g : ℕ) (v : Value) → (asked rs m i g v).fit ≡ true
    → ((w : ℕ → ℕ) → Walk (asked rs m i g v) w → Fair (asked rs m i g v) w → Sometimes rs m i g v) × (NoWalk (asked rs m i g v) → Never rs m i g v)
query_right rs m small law i g v fit = (some rs m small law i g v fit, none rs m small law i g v fit)

-- neither on nor off: no run at all
pub never_both : (rs : List Form) (m : Meaning) (i g : ℕ) → Never rs m i g On → Never rs m i g Off → NoRun rs m
never_both rs m i g no-on no-off σ run meets = elim (cases_Bool (σ i g)) [ inl e ↦ no-on σ run meets e | inr e ↦ no-off σ run meets e ]

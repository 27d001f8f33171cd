-- A run that follows a fair walk of the machine meets the rules. Assumes nothing.
use Rattle.std.proofs.Common.{◌≡◌, ℕ, suc, ◌^◌, ◌<◌, Bool, true, false, cond, ◌&&◌, ltb, List, [], ◌∷◌, length, get_or, Decides, sym, ◌∙◌, inl, inr, arith}
use Rattle.std.proofs.lemmas.Bool.{and_parts, cases_Bool, ltb-true, cond-true, cond-false}
use Rattle.logic.specs.Runs.{Run}
use Rattle.logic.specs.Marks.{mark}
use Rattle.logic.specs.Form.{Form}
use Rattle.logic.specs.Truth.{Holds, Meets}
use Rattle.logic.specs.Basics.{occurs, rank, signals, basics, all}
use Rattle.plant.specs.Walks.{Walk, Fair, Follows, Runs}
use Rattle.tableau.specs.Machine.{bit_on, holds, linked, kept, machine, tableau}
use Rattle.tableau.specs.Small.{Small}
use Rattle.soundness.proofs.Sound.{Each, Often, right}
use Rattle.tableau.specs.MachineLawful.{marked}

each_from : (P : (ℕ → Bool) → Type 0) (xs : List (ℕ → Bool)) (d : ℕ → Bool) → ((k : ℕ) → k < length xs → P (get_or xs k d)) → Each P xs
each_from P [] d h = tt
each_from P (x ∷ xs) d h = (h 0 (omega arith), each_from P xs d (λ k l. h (suc k) (omega arith)))

module _ (f : Form) (small : Small f) (w : ℕ → ℕ) (walks : Walk (machine f) w) (fair : Fair (machine f) w) (σ : Run) (follows : Follows (machine f) σ w) where
  pub step_parts : (j : ℕ) → (ltb (w j) (2 ^ basics f) ≡ true) × (linked (rank f) f (w j) (w (suc j)) (signals f) ≡ true)
  step_parts j =
      let n = 2 ^ basics f in
      let l = linked (rank f) f (w j) (w (suc j)) (signals f) in
      let p = and_parts (ltb (w j) n) (ltb (w (suc j)) n && l) (walks.steps j) in
      (p.0, (and_parts (ltb (w (suc j)) n) l p.1).1)

  pub shown : (j g : ℕ) → occurs f g ≡ true → bit_on (w j) (rank f g) ≡ σ j g
  shown j g o =
      let l = small.signals_few g o in
      let b = bit_on (w j) (rank f g) in
      let m : mark ((machine f).marks (w j)) g ≡ cond b 1 2 =
      marked f (w j) (ltb-true (w j) (2 ^ basics f) (step_parts j).0) g l ∙ cond-true (occurs f g) (cond b 1 2) 3 o in
      elim (cases_Bool b) [
        | inl e ↦ e ∙ sym ((follows j g l).0 (m ∙ cond-true b 1 2 e))
        | inr e ↦ e ∙ sym ((follows j g l).1 (m ∙ cond-false b 1 2 e))
      ]

  pub kept_often : Each (Often (rank f) w σ) (kept (rank f) f (signals f))
  kept_often =
      each_from (Often (rank f) w σ) (kept (rank f) f (signals f)) (λ _. false)
      (λ k l j.
      let r = fair k l j in
      (r.0, r.1, (and_parts (ltb (w r.0) (2 ^ basics f)) (get_or (kept (rank f) f (signals f)) k (λ _. false) (w r.0)) r.2).1))

  -- the truth of the formula in the walk's state is its truth on the run
  pub truth : (j : ℕ) → Decides (holds (rank f) f (w j) (signals f)) (Holds f σ j)
  truth = right (rank f) w σ f (signals f) shown (λ j. (step_parts j).1) kept_often

  pub met : Holds f σ 0
  met = (truth 0).0 (and_parts (ltb (w 0) (2 ^ basics f)) (holds (rank f) f (w 0) (signals f)) walks.begins).1

pub meets_from : (σ : Run) (rs : List Form) → Holds (all rs) σ 0 → Meets σ rs
meets_from σ [] h = tt
meets_from σ (r ∷ rs) h = (h.0, meets_from σ rs h.1)

pub meets_all : (σ : Run) (rs : List Form) → Meets σ rs → Holds (all rs) σ 0
meets_all σ [] h = tt
meets_all σ (r ∷ rs) h = (h.0, meets_all σ rs h.1)

-- every run of the book's machine meets every rule
pub found : (rs : List Form) → Small (all rs) → (σ : Run) → Runs (tableau rs) σ → Meets σ rs
found rs small σ r = meets_from σ rs (met (all rs) small r.walk r.walks r.fair σ r.follows)

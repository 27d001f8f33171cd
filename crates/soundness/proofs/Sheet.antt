-- What a sheet promises. Assumes nothing.
use Rattle.std.proofs.Common.{◌≡◌, ℕ, ◌+◌, ◌-◌, ◌%◌, ◌<◌, true, ltb, List, get_or, sym, subst, arith}
use Rattle.std.proofs.lemmas.Nat.{mod_below}
use Rattle.std.proofs.lemmas.Bool.{ltb-true, cond_both}
use Rattle.logic.specs.Runs.{Run}
use Rattle.logic.specs.Marks.{Obeys}
use Rattle.logic.specs.Form.{Form}
use Rattle.plant.specs.Meaning.{Meaning, Lawful}
use Rattle.plant.specs.Walks.{Runs}
use Rattle.logic.specs.Truth.{Meets}
use Rattle.logic.specs.Basics.{all}
use Rattle.tableau.specs.Small.{Small}
use Rattle.tableau.specs.Machine.{tableau}
use Rattle.joint.specs.Pair.{fits, joint}
use Rattle.plant.specs.Lasso.{place, round, Lasso}
use Rattle.plant.proofs.Lassos.{lasso_walks}
use Rattle.soundness.specs.Sheet.{Written, AgreesWith}
use Rattle.soundness.proofs.Decide.{run_right, read, read_follows}

place_below : (stem loop j : ℕ) → 0 < loop → place stem loop j < stem + loop
place_below stem loop j some =
    cond_both (ltb j stem) j (stem + (j - stem) % loop) (λ x. x < stem + loop) (λ e. omega (arith, ltb-true j stem e)) (λ e. omega (arith, mod_below (j - stem) loop some))

-- some run agrees with the sheet, and every such run is a run of the plant that meets every rule
pub sheet_right : (rs : List Form) (m : Meaning) → Small (all rs) → Lawful m → fits (tableau rs) m ≡ true
    → (ws sheet : List ℕ) (stem loop : ℕ) → Lasso (joint (tableau rs) m) ws stem loop → Written (joint (tableau rs) m) ws sheet (stem + loop)
    → ((σ : Run) → AgreesWith σ sheet stem loop → Runs m σ × Meets σ rs) × ((σ : Run) × AgreesWith σ sheet stem loop)
sheet_right rs m small law fit ws sheet stem loop l written =
    let J = joint (tableau rs) m in
    let w = round ws stem loop in
    let fair = lasso_walks J ws stem loop l in
    let at : (j : ℕ) → get_or sheet (place stem loop j) 0 ≡ J.marks (w j) = λ j. written (place stem loop j) (place_below stem loop j l.some) in (
      (λ σ agrees. run_right rs m small law fit w fair.0 fair.1 σ (λ j. subst (λ (x : ℕ). Obeys (σ j) x) (at j) (agrees j))),
      (read J w, (λ j. subst (λ (x : ℕ). Obeys (read J w j) x) (sym (at j)) (read_follows J w j))),
    )

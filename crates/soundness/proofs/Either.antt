-- The word that marks everything either, and the free plant. Assumes nothing.
use Rattle.std.proofs.Common.{◌≡◌, ℕ, zero, suc, ◌<◌, Bool, true, ◌&&◌, eqb, refl, arith}
use Rattle.std.proofs.lemmas.Bool.{eqb-true}
use Rattle.std.proofs.lemmas.Bool.Decides.{Decides-below_and}
use Rattle.logic.specs.Runs.{Setting, Run}
use Rattle.logic.specs.Marks.{mark, all_either, Obeys}
use Rattle.plant.specs.Walks.{Runs}
use Rattle.plant.specs.Free.{free}

three : ℕ → Bool
three zero = true
three (suc g) = eqb (mark all_either g) 3 && three g

all_three : three 16 ≡ true
unfolding three
all_three = refl

either : (g : ℕ) → g < 16 → mark all_either g ≡ 3
unfolding three
either g l = eqb-true (mark all_either g) 3 ((Decides-below_and (λ x. eqb (mark all_either x) 3) (λ x. eqb (mark all_either x) 3 ≡ true) three (λ x. (λ e. e, λ e. e)) refl (λ _. refl) 16).0 all_three g l)

-- every setting obeys it
pub obeys_either : (on : Setting) → Obeys on all_either
obeys_either on g l = let m = either g l in ((λ x. absurd (omega arith)), (λ x. absurd (omega arith)))

-- every run is a run of the free plant
pub free_runs : (σ : Run) → Runs free σ
free_runs σ = record {
  walk = λ _. 0;
  walks = record { begins = refl; steps = λ j. refl };
  fair = λ k h. absurd (omega arith);
  follows = λ j. obeys_either (σ j);
}

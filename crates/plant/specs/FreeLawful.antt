-- The free plant keeps what a plant keeps. Assumes nothing.
use Rattle.std.specs.Prelude.{◌==◌, refl}
use Rattle.std.proofs.Common.{arith, lit≤}
use Rattle.std.proofs.lemmas.Bool.{eqb-true, and_parts, true≢false, false≢true}
use Rattle.logic.proofs.Words.{all_either_whole}
use Rattle.plant.specs.Meaning.{Lawful}
use Rattle.plant.specs.Free.{free}

pub free_lawful : Lawful free
free_lawful = record {
  few_states = lit≤ tt;
  few_promises = lit≤ tt;
  unfit_states = λ e. absurd (true≢false e);
  unfit_promises = λ e. absurd (true≢false e);
  starts_exist = λ s e. omega (arith, eqb-true s 0 e);
  steps_from = λ s t e. omega (arith, eqb-true s 0 (and_parts (s == 0) (t == 0) e).0);
  steps_to = λ s t e. omega (arith, eqb-true t 0 (and_parts (s == 0) (t == 0) e).1);
  fulfils_state = λ s k e. absurd (false≢true e);
  fulfils_promise = λ s k e. absurd (false≢true e);
  mark_some = λ s h. all_either_whole;
  mark_none = λ s h. refl;
}

-- What an unfit plant means: nothing exists. Assumes nothing.
use Rattle.std.specs.Prelude.{false, refl}
use Rattle.std.proofs.Common.{arith}
use Rattle.std.proofs.lemmas.Bool.{false≢true}
use Rattle.logic.specs.Marks.{all_either}
use Rattle.plant.specs.Meaning.{Meaning, Lawful}

abbrev pub unfit : Meaning
unfit = record {
  fit = false;
  states = 0;
  promises = 0;
  start = λ s. false;
  step = λ s t. false;
  fulfils = λ s k. false;
  marks = λ s. all_either;
}

pub unfit_lawful : Lawful unfit
unfit_lawful = record {
  few_states = omega arith;
  few_promises = omega arith;
  unfit_states = λ e. refl;
  unfit_promises = λ e. refl;
  starts_exist = λ s e. absurd (false≢true e);
  steps_from = λ s t e. absurd (false≢true e);
  steps_to = λ s t e. absurd (false≢true e);
  fulfils_state = λ s k e. absurd (false≢true e);
  fulfils_promise = λ s k e. absurd (false≢true e);
  mark_some = λ s h. absurd (omega arith);
  mark_none = λ s h. refl;
}

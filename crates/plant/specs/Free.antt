-- The free plant: one state, a start that steps to itself and marks everything either, and no promise. Assumes nothing.
use Rattle.std.specs.Prelude.{true, false, ◌&&◌, ◌==◌}
use Rattle.logic.specs.Marks.{all_either}
use Rattle.plant.specs.Meaning.{Meaning}

abbrev pub free : Meaning
free = record {
  fit = true;
  states = 1;
  promises = 0;
  start = λ s. (s == 0);
  step = λ s t. (s == 0) && (t == 0);
  fulfils = λ s k. false;
  marks = λ s. all_either;
}

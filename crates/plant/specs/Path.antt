-- The probe for a step, a signal and a value. Assumes nothing.
use Rattle.std.specs.Prelude.{ℕ, ◌+◌, min, Bool, true, false, cond, ◌&&◌, ◌==◌, nat_le, nat_lt}
use Rattle.logic.specs.Marks.{all_either, word}
use Rattle.plant.specs.Meaning.{Meaning}
use Rattle.plant.specs.Unfit.{unfit}
use Rattle.plant.specs.declared.probe.Value.{Value}
use Rattle.plant.specs.declared.probe.Value.TheVariants.{On, Off}

-- the last signal, and the last step that a probe can ask for
abbrev pub last_signal : ℕ
last_signal = 15

abbrev pub last_step : ℕ
last_step = 1048574

-- the mark that says the value
abbrev pub value_mark : Value → ℕ
value_mark On = 1
value_mark Off = 2

-- the word that marks g as v and every other signal either
abbrev pub only : ℕ → Value → ℕ
only g v = word (λ h. cond (h == g) (value_mark v) 3) 16

-- the states 0 to i + 1, each stepping to the next and the last to itself; state i marks g as v
abbrev pub path : ℕ → ℕ → Value → Meaning
path i g v = record {
  fit = true;
  states = i + 2;
  promises = 0;
  start = λ s. (s == 0);
  step = λ s t. nat_lt s (i + 2) && (t == min (s + 1) (i + 1));
  fulfils = λ s k. false;
  marks = λ s. cond (s == i) (only g v) all_either;
}

abbrev pub path_fits : ℕ → ℕ → Bool
path_fits i g = nat_le g last_signal && nat_le i last_step

abbrev pub probe : ℕ → ℕ → Value → Meaning
probe i g v = cond (path_fits i g) (path i g v) unfit

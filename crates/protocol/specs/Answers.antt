-- The bytes of each answer. Assumes nothing.
use Rattle.std.specs.Prelude.{ℕ, List, ◌++◌, Ok, Err, codes, decimal, Result}
use Rattle.faults.specs.declared.causes.ConsoleCause.{ConsoleCause}
use Rattle.faults.specs.declared.fault.Fault.{Fault}
use Rattle.faults.specs.Numbers.{console_number}
use Rattle.protocol.specs.declared.answers.Answer.{Answer}

-- `refused NUMBER PLACE`
abbrev pub refused_text : ℕ → ℕ → List ℕ
refused_text n p = codes "refused " ++ (decimal n ++ (codes " " ++ decimal p))

abbrev pub text_of : Result (Unit {0}) (Fault ConsoleCause) → List ℕ
text_of (Ok x) = codes "ok"
text_of (Err e) = refused_text (console_number e.cause) e.place

abbrev pub text_of_answer : Answer → List ℕ
text_of_answer a = text_of a.0

-- The answer to a line is that of the call that it asks for. Assumes nothing.
use Rattle.std.specs.Prelude.{◌≡◌, ℕ, true, is_ok, None, Ok, Err, Result}
use Rattle.faults.specs.declared.causes.BookCause.{BookCause}
use Rattle.faults.specs.declared.causes.ConsoleCause.TheVariants.{Book, NoForm}
use Rattle.faults.specs.declared.fault.Fault.{Fault}
use Rattle.book.specs.Standing.{State}
use Rattle.book.specs.Calls.{cause_of_declare, Declared, TakeCause, Taken, Dropped}
use Rattle.protocol.specs.declared.answers.Answer.{Answer}
use Rattle.protocol.specs.Forms.{Asked, signal, rule, drop_rule, unknown}

-- `ok`, or the book's refusal, which is carried whole
abbrev pub answered : {X : Type 0} → Result X (Fault BookCause) → Answer
answered (Ok x) = record { 0 = Ok tt }
answered (Err e) = record { 0 = Err (record { cause = Book e.cause; place = e.place }) }

-- with plenty of memory or not, and s standing: the answer to what is asked, and what stands then
abbrev pub Responds : Type 0 → State → Asked → Answer → State → Type 0
Responds plenty s (signal w) a then =
    (r : Result ℕ (Fault BookCause)) × (a ≡ answered r) × Declared s w r then × (plenty → cause_of_declare s w ≡ None → is_ok r ≡ true)
Responds plenty s (rule i t) a then =
    (r : Result (Unit {0}) (Fault BookCause)) × (a ≡ answered r) × Taken s i t r then × (plenty → TakeCause s i t None → is_ok r ≡ true)
Responds plenty s (drop_rule i) a then = (r : Result (Unit {0}) (Fault BookCause)) × (a ≡ answered r) × Dropped s i r then
Responds plenty s unknown a then = (a ≡ record { 0 = Err (record { cause = NoForm; place = 0 }) }) × (then ≡ s)

-- What each call on a book comes to: its causes in their order, and what stands then. Assumes nothing.
use Rattle.std.specs.Prelude.{◌≡◌, ℕ, cond, List, length, is_some, Some, None, Ok, Err, Option, Result, nat_le, slice_index_or}
use Rattle.faults.specs.declared.layer.Layer.TheVariants as layers
use Rattle.faults.specs.declared.fault.Fault.{Fault}
use Rattle.faults.specs.declared.causes.BookCause.{BookCause}
use Rattle.faults.specs.Refusals.{Refusal, refusal, reading_refusal, book_refusal}
use Rattle.logic.specs.Form.{Form}
use Rattle.logic.specs.Basics.{basics}
use Rattle.reading.specs.Names.{found}
use Rattle.grammar.specs.Grammar.{Derives}
use Rattle.grammar.specs.Scan as scans
use Rattle.grammar.specs.Scan.{Verdict, granted, verdict}
use Rattle.book.specs.Names.{is_one_name}
use Rattle.book.specs.Rules.{together}
use Rattle.book.specs.Standing.{State, with_name, with_slot}

-- a refusal of the book's own, at place 0
abbrev pub in_book : ℕ → Refusal
in_book n = refusal layers.Book n 0

-- what a cause tells at place 0
abbrev pub at_zero : BookCause → Refusal
at_zero c = book_refusal (record { cause = c; place = 0 })

-- comes only where no cause applies
abbrev pub want_of_memory : Refusal
want_of_memory = in_book 30

-- the fault is the first cause that applies, or want of memory
abbrev pub RefusedFor : Option Refusal → Fault BookCause → Type 0
RefusedFor (Some r) e = book_refusal e ≡ r
RefusedFor None e = book_refusal e ≡ want_of_memory

-- declare: 12 no name, 13 declared already, 14 sixteen signals are declared
abbrev pub cause_of_declare : State → List ℕ → Option Refusal
cause_of_declare s w =
    cond (is_one_name w)
    (cond (is_some (found s.names w 0)) (Some (in_book 13)) (cond (nat_le 16 (length s.names)) (Some (in_book 14)) None))
    (Some (in_book 12))

-- a granted declare gives the name the next number; a refused one leaves the book as it was
abbrev pub Declared : State → List ℕ → Result ℕ (Fault BookCause) → State → Type 0
Declared s w (Ok n) then = (cause_of_declare s w ≡ None) × (n ≡ length s.names) × (then ≡ with_name s w)
Declared s w (Err e) then = RefusedFor (cause_of_declare s w) e × (then ≡ s)

-- before a text is read: 7 slot above 7, 8 a rule stands there, 10 text over 512 bytes
abbrev pub cause_of_slot : State → ℕ → List ℕ → Option Refusal
cause_of_slot s i t =
    cond (nat_le i 7)
    (cond (is_some (slice_index_or s.rules i None)) (Some (in_book 8)) (cond (nat_le (length t) 512) None (Some (refusal layers.Book 10 512))))
    (Some (in_book 7))

-- 11 the basics would pass 12
abbrev pub basics_cause : State → Option Refusal
basics_cause s = cond (nat_le (basics (together s.rules)) 12) None (Some (in_book 11))

-- what the reading refuses, and then what the basics of the text's formula would pass
abbrev pub TextCause : Verdict → State → ℕ → List ℕ → Option Refusal → Type 0
TextCause (scans.refusal c p) s i t o = o ≡ Some (reading_refusal (record { cause = c; place = p }))
TextCause granted s i t o = (f : Form) → Derives s.names t f → o ≡ basics_cause (with_slot s i (Some f))

abbrev pub TakeFrom : Option Refusal → State → ℕ → List ℕ → Option Refusal → Type 0
TakeFrom (Some r) s i t o = o ≡ Some r
TakeFrom None s i t o = TextCause (verdict s.names t) s i t o

-- o is the first cause, if there is one, why the text cannot be put into the slot
abbrev pub TakeCause : State → ℕ → List ℕ → Option Refusal → Type 0
TakeCause s i t o = TakeFrom (cause_of_slot s i t) s i t o

-- a granted take puts the formula of the text into the slot; a refused one leaves the book as it was
abbrev pub Taken : State → ℕ → List ℕ → Result (Unit {0}) (Fault BookCause) → State → Type 0
Taken s i t (Ok x) then = TakeCause s i t None × ((f : Form) × Derives s.names t f × (then ≡ with_slot s i (Some f)))
Taken s i t (Err e) then = ((o : Option Refusal) × TakeCause s i t o × RefusedFor o e) × (then ≡ s)

-- drop: 7 slot above 7, 9 no rule stands there
abbrev pub cause_of_drop : State → ℕ → Option Refusal
cause_of_drop s i = cond (nat_le i 7) (cond (is_some (slice_index_or s.rules i None)) None (Some (in_book 9))) (Some (in_book 7))

-- a granted drop empties the slot; a refused one leaves the book as it was
abbrev pub Dropped : State → ℕ → Result (Unit {0}) (Fault BookCause) → State → Type 0
Dropped s i (Ok x) then = (cause_of_drop s i ≡ None) × (then ≡ with_slot s i None)
Dropped s i (Err e) then = (cause_of_drop s i ≡ Some (book_refusal e)) × (then ≡ s)

-- The basics of rules: the signals that occur in them, and their operators that look ahead. Assumes nothing.
use Rattle.std.specs.Prelude.{ℕ, zero, suc, ◌+◌, ◌-◌, Bool, true, false, cond, ◌&&◌, ◌||◌, List, [], ◌∷◌, Some, None, Option, ◌==◌, nat_le, nat_lt}
use Rattle.logic.specs.Form.{Form, yes_form, no_form, signal, not_form, next_form, always, eventually, and_form, or_form, implies, until}

-- the signal g occurs in the formula
abbrev pub occurs : Form → ℕ → Bool
occurs yes_form g = false
occurs no_form g = false
occurs (signal h) g = h == g
occurs (not_form f) g = occurs f g
occurs (next_form f) g = occurs f g
occurs (always f) g = occurs f g
occurs (eventually f) g = occurs f g
occurs (and_form e f) g = occurs e g || occurs f g
occurs (or_form e f) g = occurs e g || occurs f g
occurs (implies e f) g = occurs e g || occurs f g
occurs (until e f) g = occurs e g || occurs f g

-- how many occurrences of `next`, `until`, `always` and `eventually`
abbrev pub ops : Form → ℕ
ops yes_form = 0
ops no_form = 0
ops (signal g) = 0
ops (not_form f) = ops f
ops (next_form f) = ops f + 1
ops (always f) = ops f + 1
ops (eventually f) = ops f + 1
ops (and_form f g) = ops f + ops g
ops (or_form f g) = ops f + ops g
ops (implies f g) = ops f + ops g
ops (until f g) = ops f + 1 + ops g

-- how many numbers below n pass the test
unfoldable pub tally : ℕ → (ℕ → Bool) → ℕ
tally zero p = 0
tally (suc n) p = tally n p + cond (p n) 1 0

-- how many signals below g occur
abbrev pub rank : Form → ℕ → ℕ
rank f g = tally g (occurs f)

-- how many of the sixteen signals occur
unfoldable pub signals : Form → ℕ
signals f = rank f 16

-- the basics: each signal that occurs once, and each occurrence of an operator
abbrev pub basics : Form → ℕ
basics f = signals f + ops f

-- the rules together, one after another
abbrev pub all : List Form → Form
all [] = yes_form
all (r ∷ rs) = and_form r (all rs)

-- every signal that occurs has a number below n
abbrev pub below : ℕ → Form → Bool
below n yes_form = true
below n no_form = true
below n (signal g) = nat_lt g n
below n (not_form f) = below n f
below n (next_form f) = below n f
below n (always f) = below n f
below n (eventually f) = below n f
below n (and_form f g) = below n f && below n g
below n (or_form f g) = below n f && below n g
below n (implies f g) = below n f && below n g
below n (until f g) = below n f && below n g

-- what is left of a room once n have taken theirs, if they find it
abbrev pub spent : ℕ → ℕ → Option ℕ
spent n room = cond (nat_le n room) (Some (room - n)) None

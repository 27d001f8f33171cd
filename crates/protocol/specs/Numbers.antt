-- Numbers of one to four digits at the front of a text. Assumes nothing.
use Rattle.std.specs.Prelude.{ℕ, ◌+◌, ◌-◌, ◌*◌, Bool, cond, ◌||◌, List, take, drop, Some, None, fold, Option, ◌==◌, nat_lt}
use Rattle.std.specs.Char.{is_ascii_digit}
use Rattle.std.specs.List.{prefix_len}
use Rattle.protocol.specs.declared.numbers.Numbered.{Numbered}

abbrev pub is_digit : ℕ → Bool
is_digit b = is_ascii_digit b

-- the number that digits are, in base ten
abbrev pub value_of_digits : List ℕ → ℕ
value_of_digits ds = fold (λ n b. n * 10 + (b - 48)) 0 ds

-- the number of the n digits at the front, and what follows them
abbrev pub numbered_by : ℕ → List ℕ → Option (ℕ × List ℕ)
numbered_by n text = cond (n == 0 || nat_lt 4 n) None (Some (value_of_digits (take n text), drop n text))

-- all the digits at the front are one number
abbrev pub numbered : List ℕ → Option (ℕ × List ℕ)
numbered text = numbered_by (prefix_len is_digit text) text

abbrev pub numbered_of : Option Numbered → Option (ℕ × List ℕ)
numbered_of None = None
numbered_of (Some n) = Some (n.value, n.rest.now)

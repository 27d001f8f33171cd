-- The book's machine: its states, by one bit for each basic of the standing rules. Assumes nothing.
use Rattle.std.specs.Prelude.{ℕ, ◌+◌, ◌/◌, ◌%◌, ◌^◌, Bool, true, false, cond, not, ◌&&◌, ◌||◌, List, [], ◌∷◌, ◌++◌, length, ◌==◌, nat_lt, slice_index_or}
use Rattle.logic.specs.Marks.{all_either, word}
use Rattle.logic.specs.Form.{Form, yes_form, no_form, signal, not_form, next_form, always, eventually, and_form, or_form, implies, until}
use Rattle.logic.specs.Basics.{occurs, ops, rank, signals, basics, all}
use Rattle.plant.specs.Meaning.{Meaning}

-- the bit k of the state s is on
abbrev pub bit_on : ℕ → ℕ → Bool
bit_on s k = s / 2 ^ k % 2 == 1

-- truth in a state: the signal g has the bit a g, and the operators have the bits from k on, in the order of the text
abbrev pub holds : (ℕ → ℕ) → Form → ℕ → ℕ → Bool
holds a yes_form s k = true
holds a no_form s k = false
holds a (signal g) s k = bit_on s (a g)
holds a (not_form f) s k = not (holds a f s k)
holds a (next_form f) s k = bit_on s k
holds a (always f) s k = holds a f s (k + 1) && bit_on s k
holds a (eventually f) s k = holds a f s (k + 1) || bit_on s k
holds a (and_form f g) s k = holds a f s k && holds a g s (k + ops f)
holds a (or_form f g) s k = holds a f s k || holds a g s (k + ops f)
holds a (implies f g) s k = not (holds a f s k) || holds a g s (k + ops f)
holds a (until f g) s k = holds a g s (k + ops f + 1) || (holds a f s k && bit_on s (k + ops f))

abbrev pub same : Bool → Bool → Bool
same true y = y
same false y = not y

-- each `next φ` bit of s equals the truth of φ in t, and each other operator's bit of s equals the truth of its whole formula in t
abbrev pub linked : (ℕ → ℕ) → Form → ℕ → ℕ → ℕ → Bool
linked a yes_form s t k = true
linked a no_form s t k = true
linked a (signal g) s t k = true
linked a (not_form f) s t k = linked a f s t k
linked a (next_form f) s t k = same (bit_on s k) (holds a f t (k + 1)) && linked a f s t (k + 1)
linked a (always f) s t k = same (bit_on s k) (holds a (always f) t k) && linked a f s t (k + 1)
linked a (eventually f) s t k = same (bit_on s k) (holds a (eventually f) t k) && linked a f s t (k + 1)
linked a (and_form f g) s t k = linked a f s t k && linked a g s t (k + ops f)
linked a (or_form f g) s t k = linked a f s t k && linked a g s t (k + ops f)
linked a (implies f g) s t k = linked a f s t k && linked a g s t (k + ops f)
linked a (until f g) s t k = linked a f s t k && (same (bit_on s (k + ops f)) (holds a (until f g) t k) && linked a g s t (k + ops f + 1))

-- the promises in bit order, each by the test of the states that fulfil it
abbrev pub kept : (ℕ → ℕ) → Form → ℕ → List (ℕ → Bool)
kept a yes_form k = []
kept a no_form k = []
kept a (signal g) k = []
kept a (not_form f) k = kept a f k
kept a (next_form f) k = kept a f (k + 1)
kept a (always f) k = (λ s. holds a (always f) s k || not (holds a f s (k + 1))) ∷ kept a f (k + 1)
kept a (eventually f) k = (λ s. not (holds a (eventually f) s k) || holds a f s (k + 1)) ∷ kept a f (k + 1)
kept a (and_form f g) k = kept a f k ++ kept a g (k + ops f)
kept a (or_form f g) k = kept a f k ++ kept a g (k + ops f)
kept a (implies f g) k = kept a f k ++ kept a g (k + ops f)
kept a (until f g) k = kept a f k ++ ((λ s. not (holds a (until f g) s k) || holds a g s (k + ops f + 1)) ∷ kept a g (k + ops f + 1))

-- the mark of the signal g in the state s
abbrev pub mark_of : Form → ℕ → ℕ → ℕ
mark_of f s g = cond (occurs f g) (cond (bit_on s (rank f g)) 1 2) 3

unfoldable pub mark_word : Form → ℕ → ℕ
mark_word f s = word (mark_of f s) 16

abbrev pub machine : Form → Meaning
machine f = record {
  fit = true;
  states = 2 ^ basics f;
  promises = length (kept (rank f) f (signals f));
  start = λ s. nat_lt s (2 ^ basics f) && holds (rank f) f s (signals f);
  step = λ s t. nat_lt s (2 ^ basics f) && (nat_lt t (2 ^ basics f) && linked (rank f) f s t (signals f));
  fulfils = λ s k. nat_lt s (2 ^ basics f) && slice_index_or (kept (rank f) f (signals f)) k (λ _. false) s;
  marks = λ s. cond (nat_lt s (2 ^ basics f)) (mark_word f s) all_either;
}

-- the machine of the rules together, in the order of the slots
abbrev pub tableau : List Form → Meaning
tableau rs = machine (all rs)

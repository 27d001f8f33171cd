-- What stands in a book. Assumes nothing.
use Rattle.std.specs.Prelude.{ℕ, List, [], ◌∷◌, ◌++◌, replicate, None, vec_items, Option, slice_set}
use Rattle.logic.specs.Form.{Form}
use Rattle.reading.specs.Names.{names_of}
use Rattle.book.specs.declared.book.Book.{Book}
use Rattle.book.specs.Rules.{rules_of}

-- the declared names, by number, and the rule of each of the eight slots
pub record State : Type 0 where
  pub names : List (List ℕ)
  pub rules : List (Option Form)

-- a new book has no signal and eight empty slots
abbrev pub fresh : State
fresh = record { names = []; rules = replicate 8 None }

abbrev pub state_of : Book → State
state_of b = record { names = names_of (vec_items b.names); rules = rules_of b.slots }

-- one name more, which has the next number
abbrev pub with_name : State → List ℕ → State
with_name s w = record { names = s.names ++ (w ∷ []); rules = s.rules }

-- the slot holds this rule, or none; the other slots are as they were
abbrev pub with_slot : State → ℕ → Option Form → State
with_slot s i o = record { names = s.names; rules = slice_set s.rules i o }

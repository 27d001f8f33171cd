-- Samples of the definitions, with the signals p, q and r declared. Assumes nothing.
use Rattle.std.specs.Prelude.{◌≡◌, ℕ, zero, suc, List, [], ◌∷◌, ◌++◌, codes}
use Rattle.faults.specs.Numbers.{reading_number}
use Rattle.faults.specs.declared.causes.ReadingCause.{ReadingCause}
use Rattle.faults.specs.declared.causes.ReadingCause.TheVariants.{Words, Misfit, Unfinished, ManyTokens}
use Rattle.faults.specs.declared.causes.WordCause.TheVariants.{NoToken}
use Rattle.logic.specs.Form.{Form, signal, not_form, and_form, until}
use Rattle.logic.specs.Basics.{basics}
use Rattle.grammar.specs.Scan.{granted, refusal, verdict}
use Rattle.grammar.specs.Grammar.{Derives}

abbrev pub pqr : List (List ℕ)
pqr = codes "p" ∷ codes "q" ∷ codes "r" ∷ []

abbrev pub p : Form
p = signal 0

abbrev pub q : Form
q = signal 1

abbrev pub r : Form
r = signal 2

-- n times the first, and then the second
abbrev pub times : ℕ → List ℕ → List ℕ → List ℕ
times zero a b = b
times (suc n) a b = a ++ times n a b

-- the text is refused for the cause, which has this number, at the place
abbrev pub RefusedFor : List ℕ → ReadingCause → ℕ → ℕ → Type 0
RefusedFor text c number place = (verdict pqr text ≡ refusal c place) × (reading_number c ≡ number)

-- the text is granted, and its formula has so many basics
abbrev pub HasBasics : List ℕ → ℕ → Type 0
HasBasics text n = (verdict pqr text ≡ granted) × ((f : Form) × Derives pqr text f × (basics f ≡ n))

pub record Samples : Type 0 where
  pub until_to_the_right : Derives pqr (codes "p until q until r") (until p (until q r))
  pub prefix_binds_tightest : Derives pqr (codes "not p until q & r") (and_form (until (not_form p) q) r)
  pub empty : RefusedFor (codes "") Unfinished 4 0
  pub left_open : RefusedFor (codes "( p") Unfinished 4 3
  pub two_operands : RefusedFor (codes "p q") Misfit 3 2
  pub no_arrow : RefusedFor (codes "p -q") (Words NoToken) 1 2
  pub most_tokens : verdict pqr (times 31 (codes "not ") (codes "p")) ≡ granted
  pub one_token_more : RefusedFor (times 32 (codes "not ") (codes "p")) ManyTokens 6 128
  pub twelve_basics : HasBasics (times 12 (codes "next ") (codes "true")) 12
  pub thirteen_basics : HasBasics (times 13 (codes "next ") (codes "true")) 13

-- What holds of every text. Assumes nothing.
use Rattle.std.specs.Prelude.{◌≡◌, ℕ, List}
use Rattle.logic.specs.Form.{Form}
use Rattle.grammar.specs.Scan.{granted, verdict}
use Rattle.grammar.specs.Grammar.{Derives}

-- each text is at most one formula
abbrev pub OneFormula : Type 0
OneFormula = (names : List (List ℕ)) (text : List ℕ) (f g : Form) → Derives names text f → Derives names text g → f ≡ g

-- nothing is refused exactly where the text is a formula
abbrev pub ScanDerives : Type 0
ScanDerives = (names : List (List ℕ)) (text : List ℕ) → (verdict names text ≡ granted → (f : Form) × Derives names text f) × ((f : Form) → Derives names text f → verdict names text ≡ granted)

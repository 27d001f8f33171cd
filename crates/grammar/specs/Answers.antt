-- What the public calls answer. Assumes nothing.
use Rattle.std.specs.Prelude.{◌≡◌, ℕ, ◌<◌, false, List, Ok, Err, Result, slice_index_or}
use Rattle.faults.specs.declared.causes.ReadingCause.{ReadingCause}
use Rattle.faults.specs.declared.fault.Fault.{Fault}
use Rattle.logic.specs.declared.formula.Formula.{Formula}
use Rattle.logic.specs.Form.{Form, form_of}
use Rattle.logic.specs.Basics.{ops, occurs}
use Rattle.grammar.specs.declared.contents.Contents.{Contents}
use Rattle.grammar.specs.declared.unread.Unread.{Unread}
use Rattle.grammar.specs.declared.unread.Unread.TheVariants.{Refused, NoMemory}
use Rattle.grammar.specs.Scan.{granted, refusal, verdict}
use Rattle.grammar.specs.Grammar.{Derives}

-- A formula is the only one that the text is, and a refusal is the text's first. Want of memory is told of no text that is refused, nor where there is plenty.
abbrev pub ReadAs : List (List ℕ) → List ℕ → Type 0 → Result Formula Unread → Type 0
ReadAs names text plenty (Ok f) = (verdict names text ≡ granted) × Derives names text (form_of f) × ((g : Form) → Derives names text g → g ≡ form_of f)
ReadAs names text plenty (Err (Refused e)) = verdict names text ≡ refusal e.cause e.place
ReadAs names text plenty (Err NoMemory) = (verdict names text ≡ granted) × (plenty → ⊥)

-- a survey tells what the formula holds: how many operators that look ahead, and which signals
pub record Tells (v : Contents) (f : Form) : Type 0 where
  pub operators : v.operators ≡ ops f
  pub signals : (g : ℕ) → g < 16 → slice_index_or v.signals g false ≡ occurs f g

-- a survey tells of the formula that the text is, and a refusal is the text's first
abbrev pub SurveyedAs : List (List ℕ) → List ℕ → Result Contents (Fault ReadingCause) → Type 0
SurveyedAs names text (Ok v) = (verdict names text ≡ granted) × ((f : Form) → Derives names text f → Tells v f)
SurveyedAs names text (Err e) = verdict names text ≡ refusal e.cause e.place

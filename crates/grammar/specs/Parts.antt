-- What the reading functions answer of a part of a text. Assumes nothing.
use Rattle.std.specs.Prelude.{◌≡◌, ℕ, ◌+◌, ◌<◌, Bool, true, false, List, Ok, Err, Result}
use Rattle.faults.specs.declared.causes.ReadingCause.{ReadingCause}
use Rattle.faults.specs.declared.fault.Fault.{Fault}
use Rattle.reading.specs.Tokens.{close'}
use Rattle.logic.specs.declared.formula.Formula.{Formula}
use Rattle.logic.specs.Form.{form_of}
use Rattle.grammar.specs.declared.state.Infix.{Infix}
use Rattle.grammar.specs.declared.state.Infix.TheVariants as ops
use Rattle.grammar.specs.declared.unread.Unread.{Unread}
use Rattle.grammar.specs.declared.unread.Unread.TheVariants.{Refused, NoMemory}
use Rattle.grammar.specs.Limits.{Stream, more}
use Rattle.grammar.specs.Scan.{scan, refusal}
use Rattle.grammar.specs.Grammar.{Rung, atom, untils, ands, ors, whole, Reads}
use Rattle.grammar.specs.Ahead.{op_rank}

-- want of memory, which comes only where there is not plenty
abbrev pub Starved : Type 0 → Unread → Type 0
Starved plenty u = (u ≡ NoMemory) × (plenty → ⊥)

-- a refusal names what is wrong with s, where an operand is due
abbrev pub Wrong : List (List ℕ) → Type 0 → Unread → Stream → Type 0
Wrong names plenty (Refused e) s = (d : ℕ) → scan names s true d ≡ refusal e.cause e.place
Wrong names plenty NoMemory s = plenty → ⊥

abbrev pub rung_rank : Rung → ℕ
rung_rank atom = 0
rung_rank untils = 1
rung_rank ands = 2
rung_rank ors = 3
rung_rank whole = 4

-- the formulas whose loosest operator is this one
abbrev pub rung_of : Infix → Rung
rung_of ops.Implies = whole
rung_of ops.Or = ors
rung_of ops.And = ands
rung_of ops.Until = untils

-- those that bind tighter
abbrev pub rung_under : Infix → Rung
rung_under ops.Implies = ors
rung_under ops.Or = ands
rung_under ops.And = untils
rung_under ops.Until = atom

abbrev pub to_the_right : Infix → Bool
to_the_right ops.Implies = true
to_the_right ops.Or = false
to_the_right ops.And = false
to_the_right ops.Until = true

-- a formula of the level was read, and no operator that belongs to it follows; or the refusal is right
abbrev pub Answered : List (List ℕ) → Type 0 → Rung → Stream → Stream → Result Formula Unread → Type 0
Answered names plenty l s u (Ok f) = Reads names l s (form_of f) u × (rung_rank l < op_rank u)
Answered names plenty l s u (Err e) = Wrong names plenty e s

-- where a `(` is to be closed
abbrev pub Shut : List (List ℕ) → Stream → Stream → Result (Unit {0}) (Fault ReadingCause) → Type 0
Shut names s u (Ok x) = (q : ℕ) × (s ≡ more close' q u)
Shut names s u (Err e) = (d : ℕ) → scan names s false (d + 1) ≡ refusal e.cause e.place

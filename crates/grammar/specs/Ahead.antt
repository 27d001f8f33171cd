-- What a reading has yet to read, and what stands ahead of it. Assumes nothing.
use Rattle.std.specs.Prelude.{◌≡◌, ℕ, true, List, length, is_some, Some, None, Ok, Err, Option, Result}
use Rattle.faults.specs.declared.causes.ReadingCause.{ReadingCause}
use Rattle.faults.specs.declared.fault.Fault.{Fault}
use Rattle.reading.specs.Tokens.{Tok, open', close', and', or', implies', until', not', next', always', eventually', true', false', name', tok_of}
use Rattle.reading.specs.Rows.{row_from}
use Rattle.reading.specs.declared.token.Placed.{Placed}
use Rattle.logic.specs.Form.{Form, not_form, next_form, always, eventually, and_form, or_form, implies, until}
use Rattle.grammar.specs.declared.state.State.{State}
use Rattle.grammar.specs.declared.state.Infix.{Infix}
use Rattle.grammar.specs.declared.state.Infix.TheVariants as ops
use Rattle.grammar.specs.declared.state.Prefix.{Prefix}
use Rattle.grammar.specs.declared.state.Prefix.TheVariants as pre
use Rattle.grammar.specs.declared.state.Due.{Due}
use Rattle.grammar.specs.declared.state.Due.TheVariants as due
use Rattle.grammar.specs.Limits.{Stream, end, stop, more, limited}
use Rattle.grammar.specs.Scan.{scan, refusal}

-- what follows the token that is ahead
abbrev pub after : State → Stream
after s = limited s.count (row_from s.reader.text.now s.reader.at)

abbrev pub ahead_on : Option Placed → ℕ → Stream → Stream
ahead_on (Some p) m s = more (tok_of p.token) p.place s
ahead_on None m s = end m

-- what a reading has yet to read, the token ahead first
abbrev pub stream_of : State → Stream
stream_of s = ahead_on s.ahead (length s.reader.text.now) (after s)

-- what follows is what stands ahead next, or it is refused
abbrev pub Fetched : Result (Unit {0}) (Fault ReadingCause) → Stream → Stream → Type 0
Fetched (Ok x) a s = a ≡ s
Fetched (Err e) a s = a ≡ stop e.cause e.place

abbrev pub place_or : Option Placed → ℕ → ℕ
place_or (Some p) m = p.place
place_or None m = m

-- where the token ahead stands, or the text's length at its end
abbrev pub place_of : State → ℕ
place_of s = place_or s.ahead (length s.reader.text.now)

-- the token t is ahead
abbrev pub On : State → Tok → Type 0
On s t = (stream_of s ≡ more t (place_of s) (after s)) × (is_some s.ahead ≡ true)

-- the level of the operator that is ahead: 5 where none is
abbrev pub op_rank : Stream → ℕ
op_rank (end m) = 5
op_rank (stop c p) = 5
op_rank (more open' p s) = 5
op_rank (more close' p s) = 5
op_rank (more and' p s) = 2
op_rank (more or' p s) = 3
op_rank (more implies' p s) = 4
op_rank (more until' p s) = 1
op_rank (more not' p s) = 5
op_rank (more next' p s) = 5
op_rank (more always' p s) = 5
op_rank (more eventually' p s) = 5
op_rank (more true' p s) = 5
op_rank (more false' p s) = 5
op_rank (more (name' w) p s) = 5

abbrev pub infix_tok : Infix → Tok
infix_tok ops.Implies = implies'
infix_tok ops.Or = or'
infix_tok ops.And = and'
infix_tok ops.Until = until'

-- how loosely an operator binds: the tightest is 1
abbrev pub infix_rank : Infix → ℕ
infix_rank ops.Implies = 4
infix_rank ops.Or = 3
infix_rank ops.And = 2
infix_rank ops.Until = 1

abbrev pub InfixIs : State → Option Infix → Type 0
InfixIs s (Some op) = On s (infix_tok op)
InfixIs s None = op_rank (stream_of s) ≡ 5

abbrev pub prefix_tok : Prefix → Tok
prefix_tok pre.Not = not'
prefix_tok pre.Next = next'
prefix_tok pre.Always = always'
prefix_tok pre.Eventually = eventually'

abbrev pub prefix_form : Prefix → Form → Form
prefix_form pre.Not f = not_form f
prefix_form pre.Next f = next_form f
prefix_form pre.Always f = always f
prefix_form pre.Eventually f = eventually f

abbrev pub infix_form : Infix → Form → Form → Form
infix_form ops.Implies f g = implies f g
infix_form ops.Or f g = or_form f g
infix_form ops.And f g = and_form f g
infix_form ops.Until f g = until f g

-- how an operand begins, or the refusal of what stands ahead
abbrev pub DueIs : State → Result Due (Fault ReadingCause) → Type 0
DueIs s (Ok due.True) = On s true'
DueIs s (Ok due.False) = On s false'
DueIs s (Ok (due.Name w)) = On s (name' w.now)
DueIs s (Ok (due.Prefix o)) = On s (prefix_tok o)
DueIs s (Ok due.Open) = On s open'
DueIs s (Err e) = (names : List (List ℕ)) (d : ℕ) → scan names (stream_of s) true d ≡ refusal e.cause e.place

-- Which tokens fit, from left to right, and so every refusal of a text and its place. Assumes nothing.
use Rattle.std.specs.Prelude.{ℕ, ◌+◌, ◌-◌, Bool, true, false, cond, List, Some, None, Option, ◌==◌}
use Rattle.faults.specs.declared.causes.ReadingCause.{ReadingCause}
use Rattle.faults.specs.declared.causes.ReadingCause.TheVariants.{Misfit, Unfinished, Undeclared}
use Rattle.reading.specs.Tokens.{Tok, open', close', and', or', implies', until', not', next', always', eventually', true', false', name'}
use Rattle.grammar.specs.Signals.{signal_named}
use Rattle.grammar.specs.Limits.{Stream, end, stop, more, tokens}

pub data Verdict : Type 0 where
  granted : Verdict
  -- a cause and its place
  refusal : ReadingCause → ℕ → Verdict

-- of a name where it fits, at p: what follows it if it is declared
abbrev pub named : Option ℕ → Verdict → ℕ → Verdict
named (Some g) v p = v
named None v p = refusal Undeclared p

-- a token at p where an operand is due: what follows a prefix word, a `(` and a whole operand
abbrev pub due_step : List (List ℕ) → Tok → ℕ → Verdict → Verdict → Verdict → Verdict
due_step names open' p prefixed opened ended = opened
due_step names close' p prefixed opened ended = refusal Misfit p
due_step names and' p prefixed opened ended = refusal Misfit p
due_step names or' p prefixed opened ended = refusal Misfit p
due_step names implies' p prefixed opened ended = refusal Misfit p
due_step names until' p prefixed opened ended = refusal Misfit p
due_step names not' p prefixed opened ended = prefixed
due_step names next' p prefixed opened ended = prefixed
due_step names always' p prefixed opened ended = prefixed
due_step names eventually' p prefixed opened ended = prefixed
due_step names true' p prefixed opened ended = ended
due_step names false' p prefixed opened ended = ended
due_step names (name' w) p prefixed opened ended = named (signal_named names w) ended p

-- a token at p where an operand has ended: what follows an operator and a `)`
abbrev pub ended_step : Tok → ℕ → Verdict → Verdict → Verdict
ended_step open' p again closed = refusal Misfit p
ended_step close' p again closed = closed
ended_step and' p again closed = again
ended_step or' p again closed = again
ended_step implies' p again closed = again
ended_step until' p again closed = again
ended_step not' p again closed = refusal Misfit p
ended_step next' p again closed = refusal Misfit p
ended_step always' p again closed = refusal Misfit p
ended_step eventually' p again closed = refusal Misfit p
ended_step true' p again closed = refusal Misfit p
ended_step false' p again closed = refusal Misfit p
ended_step (name' w) p again closed = refusal Misfit p

-- with an operand due (true) or ended (false), and d parentheses open
abbrev pub scan : List (List ℕ) → Stream → Bool → ℕ → Verdict
scan names (end m) true d = refusal Unfinished m
scan names (end m) false d = cond (d == 0) granted (refusal Unfinished m)
scan names (stop c p) due d = refusal c p
scan names (more t p s) true d = due_step names t p (scan names s true d) (scan names s true (d + 1)) (scan names s false d)
scan names (more t p s) false d = ended_step t p (scan names s true d) (cond (d == 0) (refusal Misfit p) (scan names s false (d - 1)))

-- the first thing that is wrong with a text, if anything is
abbrev pub verdict : List (List ℕ) → List ℕ → Verdict
verdict names text = scan names (tokens text) true 0

-- Which forms lines have. Assumes nothing.
use Rattle.std.specs.Prelude.{ℕ, Bool, cond, not, List, length, take, drop, Some, None, codes, Option, ◌==◌}
use Rattle.std.specs.List.{prefix_len}
use Rattle.std.specs.Str.{bytes_eq}
use Rattle.protocol.specs.declared.forms.Line.{Line}
use Rattle.protocol.specs.declared.forms.Line.TheVariants.{Signal, Rule, Drop}
use Rattle.protocol.specs.Numbers.{numbered}

-- what follows these bytes, if the line begins with them
abbrev pub past : List ℕ → List ℕ → Option (List ℕ)
past word line = cond (bytes_eq (take (length word) line) word) (Some (drop (length word) line)) None

abbrev pub not_space : ℕ → Bool
not_space b = not (b == 32)

abbrev pub spaceless : List ℕ → Bool
spaceless w = prefix_len not_space w == length w

-- what a line asks for
pub data Asked : Type 0 where
  -- a name
  signal : List ℕ → Asked
  -- a slot and a text
  rule : ℕ → List ℕ → Asked
  -- a slot
  drop_rule : ℕ → Asked
  unknown : Asked

-- a name is without spaces
abbrev pub signal_asked : List ℕ → Asked
signal_asked w = cond (spaceless w) (signal w) unknown

-- after the slot's number stand a space and the text
abbrev pub text_asked : ℕ → Option (List ℕ) → Asked
text_asked i (Some t) = rule i t
text_asked i None = unknown

abbrev pub rule_asked : Option (ℕ × List ℕ) → Asked
rule_asked (Some n) = text_asked n.0 (past (codes " ") n.1)
rule_asked None = unknown

-- after the slot's number stands nothing
abbrev pub drop_asked : Option (ℕ × List ℕ) → Asked
drop_asked (Some n) = cond (length n.1 == 0) (drop_rule n.0) unknown
drop_asked None = unknown

-- by the first of the words that the line begins with
abbrev pub drops : Option (List ℕ) → Asked
drops (Some s) = drop_asked (numbered s)
drops None = unknown

abbrev pub rules : Option (List ℕ) → List ℕ → Asked
rules (Some s) line = rule_asked (numbered s)
rules None line = drops (past (codes "drop ") line)

abbrev pub signals : Option (List ℕ) → List ℕ → Asked
signals (Some w) line = signal_asked w
signals None line = rules (past (codes "rule ") line) line

-- `signal NAME`, `rule SLOT TEXT` or `drop SLOT`
abbrev pub asked : List ℕ → Asked
asked line = signals (past (codes "signal ") line) line

abbrev pub asked_of : Option Line → Asked
asked_of (Some (Signal w)) = signal w.now
asked_of (Some (Rule i t)) = rule i t.now
asked_of (Some (Drop i)) = drop_rule i
asked_of None = unknown

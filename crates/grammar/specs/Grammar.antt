-- Which formula a text is. Prefix words bind tightest, then `until`, `&`, `|`, `->`; `until` and `->` group to the right, `&` and `|` to the left. Assumes nothing.
use Rattle.std.specs.Prelude.{◌≡◌, ℕ, List, Some}
use Rattle.logic.specs.Form.{Form, yes_form, no_form, signal, not_form, next_form, always, eventually, and_form, or_form, implies, until}
use Rattle.reading.specs.Tokens.{open', close', and', or', implies', until', not', next', always', eventually', true', false', name'}
use Rattle.grammar.specs.Signals.{signal_named}
use Rattle.grammar.specs.Limits.{Stream, end, more, tokens}

-- the levels, from the tightest on: an operand, and the formulas whose loosest operator is `until`, `&`, `|`, `->`
pub data Rung : Type 0 where
  atom untils ands ors whole : Rung

-- Reads names l s f u: the front of s is the formula f of the level l, and u follows it
pub data Reads (names : List (List ℕ)) : Rung → Stream → Form → Stream → Type 0 where
  r_true : {p : ℕ} {s : Stream} → Reads names atom (more true' p s) yes_form s
  r_false : {p : ℕ} {s : Stream} → Reads names atom (more false' p s) no_form s
  r_name : {w : List ℕ} {g p : ℕ} {s : Stream} → signal_named names w ≡ Some g → Reads names atom (more (name' w) p s) (signal g) s
  r_not : {p : ℕ} {s u : Stream} {f : Form} → Reads names atom s f u → Reads names atom (more not' p s) (not_form f) u
  r_next : {p : ℕ} {s u : Stream} {f : Form} → Reads names atom s f u → Reads names atom (more next' p s) (next_form f) u
  r_always : {p : ℕ} {s u : Stream} {f : Form} → Reads names atom s f u → Reads names atom (more always' p s) (always f) u
  r_eventually : {p : ℕ} {s u : Stream} {f : Form} → Reads names atom s f u → Reads names atom (more eventually' p s) (eventually f) u
  r_paren : {p q : ℕ} {s u : Stream} {f : Form} → Reads names whole s f (more close' q u) → Reads names atom (more open' p s) f u
  r_until : {p : ℕ} {s u v : Stream} {f g : Form} → Reads names atom s f (more until' p u) → Reads names untils u g v → Reads names untils s (until f g) v
  r_and : {p : ℕ} {s u v : Stream} {f g : Form} → Reads names ands s f (more and' p u) → Reads names untils u g v → Reads names ands s (and_form f g) v
  r_or : {p : ℕ} {s u v : Stream} {f g : Form} → Reads names ors s f (more or' p u) → Reads names ands u g v → Reads names ors s (or_form f g) v
  r_implies : {p : ℕ} {s u v : Stream} {f g : Form} → Reads names ors s f (more implies' p u) → Reads names whole u g v → Reads names whole s (implies f g) v
  as_until : {s u : Stream} {f : Form} → Reads names atom s f u → Reads names untils s f u
  as_and : {s u : Stream} {f : Form} → Reads names untils s f u → Reads names ands s f u
  as_or : {s u : Stream} {f : Form} → Reads names ands s f u → Reads names ors s f u
  as_whole : {s u : Stream} {f : Form} → Reads names ors s f u → Reads names whole s f u

-- the text, from its first token to its last, is this formula
abbrev pub Derives : List (List ℕ) → List ℕ → Form → Type 0
Derives names text f = (m : ℕ) × Reads names whole (tokens text) f (end m)

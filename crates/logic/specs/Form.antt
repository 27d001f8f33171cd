-- The formulas of rules, and the one that a value of the code stands for. Assumes nothing.
use Rattle.std.specs.Prelude.{ℕ}
use Rattle.logic.specs.declared.formula.Formula.{Formula}
use Rattle.logic.specs.declared.formula.Formula.TheVariants.{True, False, Signal, Not', Next', Always', Eventually', And', Or', Implies', Until'}

pub data Form : Type 0 where
  yes_form no_form : Form
  signal : ℕ → Form
  not_form next_form always eventually : Form → Form
  and_form or_form implies until : Form → Form → Form

abbrev pub form_of : Formula → Form
form_of True = yes_form
form_of False = no_form
form_of (Signal g) = signal g
form_of (Not' p f) = not_form (form_of f)
form_of (Next' p f) = next_form (form_of f)
form_of (Always' p f) = always (form_of f)
form_of (Eventually' p f) = eventually (form_of f)
form_of (And' p f q g) = and_form (form_of f) (form_of g)
form_of (Or' p f q g) = or_form (form_of f) (form_of g)
form_of (Implies' p f q g) = implies (form_of f) (form_of g)
form_of (Until' p f q g) = until (form_of f) (form_of g)

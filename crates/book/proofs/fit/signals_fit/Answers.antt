use Rattle.std.proofs.Common.{◌≡◌, ℕ, ◌+◌, min, leb, sym, ap, ◌∙◌, inl, inr, arith}
use Rattle.std.proofs.lemmas.Bool.{cases_lt, le-leb, lt-leb}
use Rattle.book.proofs.Tallies.{tally_counts}
use Rattle.book.proofs.fit.signals_fit.Goals as goal

-- a count that goes one past the room tells whether there is room
fits_capped : (room n : ℕ) → leb (min (room + 1) n) room ≡ leb n room
fits_capped room n = elim (cases_lt room n) [
  | inl h ↦ lt-leb (min (room + 1) n) room (omega arith) ∙ sym (lt-leb n room h)
  | inr h ↦ le-leb (min (room + 1) n) room (omega arith) ∙ sym (le-leb n room h)
]

pub returns : goal.returns
returns c = ap (λ (n : ℕ). leb n c.args.room) c.signals_of.ensures ∙ fits_capped c.args.room _ ∙ ap (λ (n : ℕ). leb n c.args.room) (sym (tally_counts _))

use Rattle.std.proofs.Common.{◌≡◌}
use Rattle.search.specs.Inner.Entries.{Rewritten}
use Rattle.verdicts.proofs.sheets.write_marks.Given as goal

abbrev pub invariant-loop-word : goal.invariant-loop-word
invariant-loop-word g l = Rewritten (λ s w. w ≡ (g.P.Plant.meaning l.plant).marks s) l.word-index l.initial.walk l.walk

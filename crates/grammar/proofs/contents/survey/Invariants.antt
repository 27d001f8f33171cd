use Rattle.reading.specs.Names.{names_of}
use Rattle.grammar.specs.Left.{left}
use Rattle.grammar.proofs.Surveying.{Sofar}
use Rattle.grammar.proofs.contents.survey.Given as goal

abbrev pub invariant-loop-s : goal.invariant-loop-s
invariant-loop-s l = Sofar (names_of l.names) l.text l.s l.at l.seen

abbrev pub decreases-loop-s : goal.decreases-loop-s
decreases-loop-s l = left l.s

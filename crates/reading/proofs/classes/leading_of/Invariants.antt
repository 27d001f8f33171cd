use Rattle.std.proofs.Common.{◌≡◌, ◌+◌, drop}
use Rattle.std.specs.List.{prefix_len}
use Rattle.reading.proofs.classes.leading_of.Given as goal

abbrev pub invariant-loop-n : goal.invariant-loop-n
invariant-loop-n g l = l.n + prefix_len (g.C.Class.test l.class) (drop l.n l.s) ≡ prefix_len (g.C.Class.test l.class) l.s

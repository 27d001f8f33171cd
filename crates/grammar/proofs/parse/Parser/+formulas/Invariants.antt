use Rattle.std.proofs.Common.{◌+◌, ◌*◌, ◌<◌}
use Rattle.logic.specs.Form.{form_of}
use Rattle.reading.specs.Names.{names_of}
use Rattle.grammar.specs.Grammar.{Reads}
use Rattle.grammar.specs.Left.{left}
use Rattle.grammar.specs.Ahead.{infix_rank, stream_of, op_rank}
use Rattle.grammar.specs.Parts.{rung_rank, rung_of, rung_under}
use Rattle.grammar.proofs.parse.Parser.+formulas.Given as goal

abbrev pub decreases-operand : goal.decreases-operand
decreases-operand g l = left l.s.now * 15

abbrev pub decreases-below : goal.decreases-below
decreases-below g l = left l.s.now * 15 + infix_rank l.op * 3

abbrev pub decreases-to_left : goal.decreases-to_left
decreases-to_left g l = left l.s.now * 15 + infix_rank l.op * 3 + 1

abbrev pub decreases-to_right : goal.decreases-to_right
decreases-to_right g l = left l.s.now * 15 + infix_rank l.op * 3 + 1

abbrev pub decreases-formula : goal.decreases-formula
decreases-formula g l = left l.s.now * 15 + infix_rank l.op * 3 + 2

abbrev pub invariant-to_left-loop-op : goal.invariant-to_left-loop-op
invariant-to_left-loop-op g l = record {
  shorter : left l.s < left l.fn.s;
  reads : Reads (names_of l.self.names.now) (rung_of l.op) (stream_of l.fn.s) (form_of l.f) (stream_of l.s);
  past : rung_rank (rung_under l.op) < op_rank (stream_of l.s);
}

abbrev pub decreases-to_left-loop-op : goal.decreases-to_left-loop-op
decreases-to_left-loop-op g l = left l.s

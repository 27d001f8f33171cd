use Rattle.std.proofs.Common.{length, ap, arith}
use Rattle.protocol.proofs.Cutting.{lines_cut}
use Rattle.protocol.proofs.input.LinesIterator.next.Goals as goal

pub returns-clause-steps : goal.returns-clause-steps
returns-clause-steps c = lines_cut c.args.self.now.rest.now c.in_ok-cut.cut.line.now c.in_ok-cut.cut.rest.now c.in_ok-cut.ensures.cuts

pub returns-clause-goes : goal.returns-clause-goes
returns-clause-goes c =
    let fewer = ap length (lines_cut c.args.self.now.rest.now c.in_ok-cut.cut.line.now c.in_ok-cut.cut.rest.now c.in_ok-cut.ensures.cuts) in
    record { on = λ _. (tt, tt, omega arith); keeps = tt; rests = λ _. tt }

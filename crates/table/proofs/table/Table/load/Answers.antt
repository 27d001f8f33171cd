use Rattle.std.proofs.Common.{ℕ, List, subst}
use Rattle.table.specs.Loads.{Granted}
use Rattle.table.specs.declared.rows.StateRow.{StateRow}
use Rattle.table.specs.declared.rows.EdgeRow.{EdgeRow}
use Rattle.table.proofs.table.Table.load.Goals as goal

-- the rows that the table holds are granted, and they are those of the load
pub returns-clause-answer : goal.returns-clause-answer
returns-clause-answer c =
    let r = c.in_ok-granted.field-0 in
    let e = c.in_ok-granted.ensures in
    subst (λ (xs : List StateRow). Granted xs c.args.edges.now c.args.promises) e.0
    (subst (λ (ys : List EdgeRow). Granted r.states.now ys c.args.promises) e.1
    (subst (λ (p : ℕ). Granted r.states.now r.edges.now p) e.2 r.granted))

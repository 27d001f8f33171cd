use Rattle.std.proofs.Common.{ℕ, ◌+◌, List, get_or, take, Some, Option, sym, ap, ◌∙◌, subst, arith, take_all}
use Rattle.plant.specs.Meaning.{Least}
use Rattle.table.specs.Rows.{has_edge, no_edge}
use Rattle.table.specs.declared.rows.EdgeRow.{EdgeRow}
use Rattle.table.proofs.Edges.{has_edge_more, passed, lower, first}
use Rattle.table.proofs.steps.least_to.Goals as goal

pub loop-e-preserved : goal.loop-e-preserved
loop-e-preserved c =
    let es = c.args.edges.now in
    let i = c.loop-e.e-index in
    let s = c.args.s in
    let t = c.args.t in
    let from = (get_or es i no_edge).from in
    let to = (get_or es i no_edge).to in
    let f = has_edge (take i es) s in
    let f' = has_edge (take (i + 1) es) s in
    let more = λ (v : ℕ). has_edge_more es i no_edge s v c.loop-e-test.true in
    let Old : Option ℕ → Type 0 = Least f t in
    let New : Option ℕ → Type 0 = Least f' t in
    elim c.if-e-s.branch [
      | goal.then-e-s+then-e-t+in-Some w ↦
          subst New (sym (w.best-is ∙ ap Some w.min.ensures))
          (lower f f' from to s t more w.in-Some.b w.if-e-s.true w.if-e-t.true (subst Old w.in-Some.is c.loop-e.invariant))
      | goal.then-e-s+then-e-t+in-None w ↦
          subst New (sym w.best-is) (first f f' from to s t more w.if-e-s.true w.if-e-t.true (subst Old w.in-None.is c.loop-e.invariant))
      | goal.else-e-s w ↦
          subst New (sym w.best-is)
          (passed f f' from to s t more c.loop-e.best
          (elim w.else-e-s.branch [
            | goal.else-e-s-via-then-e-s+else-e-t w' ↦ λ p q. omega (arith, w'.if-e-t.false)
            | goal.else-e-s-via-else-e-s w' ↦ λ p q. w'.if-e-s.false p
          ])
          c.loop-e.invariant)
    ]

pub returns : goal.returns
returns c =
    let P : List EdgeRow → Type 0 = λ xs. Least (has_edge xs c.args.s) c.args.t c.loop-e.best in
    subst P (take_all _ _ c.loop-e-test.false) c.loop-e.invariant

use Rattle.std.proofs.Common.{false, sym, subst, arith, below_more}
use Rattle.std.proofs.lemmas.Bool.{both_ways}
use Rattle.std.proofs.lemmas.List.{get_or_default}
use Rattle.table.specs.Rows.{no_row}
use Rattle.table.specs.Loads.{GoodState}
use Rattle.table.specs.declared.rows.StateRow.{StateRow}
use Rattle.table.proofs.checks.first_bad_state.Goals as goal

-- a read has the row of zeros as its default
abbrev zeros : StateRow
zeros = record { start = false; fulfils = 0; marks = 0 }

pub returns-then-not-is_good_state : goal.returns-then-not-is_good_state
returns-then-not-is_good_state c =
    let same = get_or_default c.args.rows.now c.loop-s.s zeros no_row c.loop-s-test.true in (
      c.loop-s-test.true,
      (λ good. both_ways _ c.if-not-is_good_state.true (c.is_good_state.ensures.1 (subst (GoodState c.args.p) (sym same) good))),
      c.loop-s.invariant,
    )

pub loop-s-preserved : goal.loop-s-preserved
loop-s-preserved c =
    let same = get_or_default c.args.rows.now c.loop-s.s zeros no_row c.loop-s-test.true in
    below_more _ _ c.loop-s.invariant (subst (GoodState c.args.p) same (c.is_good_state.ensures.0 c.if-not-is_good_state.false))

pub returns : goal.returns
returns c i h = c.loop-s.invariant i (omega (arith, c.loop-s-test.false))

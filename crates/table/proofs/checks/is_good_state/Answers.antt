use Rattle.std.proofs.Common.{refl, arith}
use Rattle.std.proofs.lemmas.Nat.{shr_le}
use Rattle.std.proofs.lemmas.Bool.{eqb-true, eq-eqb}
use Rattle.table.proofs.Bits.{none_above, above_none}
use Rattle.table.proofs.checks.is_good_state.Goals as goal

pub returns-then-is_whole : goal.returns-then-is_whole
returns-then-is_whole c =
    let w = c.args.row.now.fulfils in
    let p = c.args.p in (
      (λ e. (c.if-is_whole.ensures.0 refl, none_above w p (eqb-true _ _ e))),
      (λ good. eq-eqb _ _ (above_none w p 32 (omega (arith, shr_le w p)) good.1)),
    )

use Rattle.std.proofs.Common.{◌≡◌, ◌≤◌, true, List, length, vec_len, Option, sym, refl, ap, subst, arith}
use Rattle.logic.specs.declared.formula.Formula.{Formula}
use Rattle.logic.specs.Basics.{basics, below}
use Rattle.book.specs.Rules.{rules_of, together}
use Rattle.book.proofs.Holding.{none_few}
use Rattle.book.proofs.book.Book.new.Goals as goal

pub invariant_of-result : goal.invariant_of-result
invariant_of-result g c =
    let names = c.in_ok-names.ensures.empty in
    let slots = c.empty_slots.ensures in
    record {
      few = omega arith;
      room = names.2;
      eight = ap length slots;
      basic = subst (λ (ss : List (Option Formula)). basics (together (rules_of ss)) ≤ 12) (sym slots) none_few;
      known = subst (λ (ss : List (Option Formula)). below (vec_len c.in_ok-names.names) (together (rules_of ss)) ≡ true) (sym slots) refl;
    }

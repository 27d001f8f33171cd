use Rattle.std.proofs.Common.{◌≡◌, ◌≤◌, true, List, None, vec_items, vec_len, Option, sym, ap, ◌∙◌, subst, arith}
use Rattle.std.specs.Option.{option_map}
use Rattle.std.proofs.lemmas.List.{length-set, map-set}
use Rattle.logic.specs.Form.{Form}
use Rattle.logic.specs.Basics.{basics, below}
use Rattle.reading.specs.Names.{names_of}
use Rattle.book.specs.Rules.{rule_of, rules_of, together}
use Rattle.book.specs.Calls.{at_zero}
use Rattle.book.proofs.Holding.{granted}
use Rattle.book.proofs.Sets.{basics_clear, below_clear}
use Rattle.book.proofs.book.Book.drop_rule.Goals as goal

pub invariant_of-self : goal.invariant_of-self
invariant_of-self c =
    let b = c.args.self.now in
    let i = c.args.slot in
    let rules = rules_of b.slots in
    let e = map-set rule_of b.slots i None in (
      b.few,
      (
        b.room,
        (
          length-set b.slots i None ∙ b.eight,
          (
            subst (λ (rs : List (Option Form)). basics (together rs) ≤ 12) (sym e) (omega (arith, basics_clear rules i, b.basic)),
            (subst (λ (rs : List (Option Form)). below (vec_len b.names) (together rs) ≡ true) (sym e) (below_clear rules i (vec_len b.names) b.known), tt),
          ),
        ),
      ),
    )

pub returns : goal.returns
returns c =
    let b = c.args.self.now in (
      sym (sym (ap (option_map at_zero) (granted c.can_drop.result c.in_ok-map_err.ensures.variant)) ∙ c.can_drop.ensures),
      ap (λ (rs : List (Option Form)). record { names = names_of (vec_items b.names); rules = rs }) (map-set rule_of b.slots c.args.slot None),
    )

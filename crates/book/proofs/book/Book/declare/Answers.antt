use Rattle.std.proofs.Common.{◌≡◌, ℕ, true, List, vec_items, vec_len, sym, refl, ap, ◌∙◌, subst, arith}
use Rattle.std.specs.Option.{option_map}
use Rattle.logic.specs.Basics.{below}
use Rattle.book.specs.Calls.{at_zero}
use Rattle.book.specs.Rules.{rules_of, together}
use Rattle.book.proofs.Holding.{granted, names_long, names_push, room_for_name}
use Rattle.book.proofs.Sets.{below_more}
use Rattle.book.proofs.book.Book.declare.Goals as goal

pub invariant_of-self : goal.invariant_of-self
invariant_of-self g c =
    let b = c.args.self.now in
    let few = room_for_name (vec_items b.names) (rules_of b.slots) c.args.name.now (sym (ap (option_map at_zero) (granted c.admits.result c.in_ok-map_err.ensures.variant)) ∙ c.admits.ensures) in
    let l = b.names.ok.0 in
    let told = c.store.ensures in
    let rules = together (rules_of b.slots) in
    let known = subst (λ (n : ℕ). below n rules ≡ true) (sym told.len) (below_more rules (vec_len b.names) b.known) in
    record { few = omega arith; room = omega (arith, b.room); eight = b.eight; basic = b.basic; known = known }

pub returns : goal.returns
returns g c =
    let b = c.args.self.now in
    let long = names_long (vec_items b.names) in
    let l = b.names.ok.0 in
    record {
      declared = (
        sym (sym (ap (option_map at_zero) (granted c.admits.result c.in_ok-map_err.ensures.variant)) ∙ c.admits.ensures),
        omega arith,
        ap (λ (ns : List (List ℕ)). record { names = ns; rules = rules_of b.slots })
            (names_push (vec_items b.names) _ c.in_ok-copy.copy c.args.name.now c.store.ensures.items c.in_ok-copy.ensures.same),
      );
      honest = λ _ _. refl;
    }

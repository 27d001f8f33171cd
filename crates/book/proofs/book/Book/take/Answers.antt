use Rattle.std.proofs.Common.{◌≡◌, ℕ, ◌≤◌, true, List, length, Some, None, vec_items, vec_len, Option, Vec, sym, refl, ap, ◌∙◌, subst, arith}
use Rattle.std.specs.declared.alloc.Global.{Global}
use Rattle.std.proofs.lemmas.List.{length-set, map-set}
use Rattle.std.proofs.lemmas.Option.{none-some}
use Rattle.logic.specs.Form.{Form, form_of}
use Rattle.logic.specs.Basics.{basics, below}
use Rattle.reading.specs.Names.{names_of}
use Rattle.grammar.specs.Grammar.{Derives}
use Rattle.book.specs.Rules.{rule_of, rules_of, together}
use Rattle.book.specs.Standing.{state_of}
use Rattle.book.proofs.Holding.{names_long}
use Rattle.book.proofs.Known.{derived_below}
use Rattle.book.proofs.Sets.{below_set}
use Rattle.book.proofs.Taking.{no_take_cause, one_take_cause}
use Rattle.book.proofs.book.Book.take.Goals as goal

pub returns-in_err-can_take-clause-honest : goal.returns-in_err-can_take-clause-honest
returns-in_err-can_take-clause-honest g c = λ _ k. let same = one_take_cause (state_of c.args.self.now) c.args.slot c.args.text.now _ None c.in_err-can_take.ensures k in absurd (none-some _ (sym same))

pub invariant_of-self : goal.invariant_of-self
invariant_of-self g c =
    let b = c.args.self.now in
    let i = c.args.slot in
    let t = c.args.text.now in
    let rules = rules_of b.slots in
    let names = vec_items b.names in
    let f = form_of c.in_ok-rule.rule in
    let e = map-set rule_of b.slots i (Some c.in_ok-rule.rule) in
    let derives : Derives (names_of names) t f = subst (λ (ns : List (Vec ℕ Global)). Derives (names_of ns) t f) c.as_slice.ensures.value c.in_ok-rule.ensures.1 in
    let long : length (names_of names) ≡ vec_len b.names = omega (arith, names_long names, b.names.ok.0) in
    let known = subst (λ (n : ℕ). below n f ≡ true) long (derived_below (names_of names) t f derives) in (
      b.few,
      (
        b.room,
        (
          length-set b.slots i (Some c.in_ok-rule.rule) ∙ b.eight,
          (
            subst (λ (rs : List (Option Form)). basics (together rs) ≤ 12) (sym e) ((no_take_cause (state_of b) i t c.in_ok-can_take.ensures).room f derives),
            (subst (λ (rs : List (Option Form)). below (vec_len b.names) (together rs) ≡ true) (sym e) (below_set rules i (vec_len b.names) f known b.known), tt),
          ),
        ),
      ),
    )

pub returns : goal.returns
returns g c =
    let b = c.args.self.now in
    let f = form_of c.in_ok-rule.rule in
    record {
      taken = (
        c.in_ok-can_take.ensures,
        (
          f,
          subst (λ (ns : List (Vec ℕ Global)). Derives (names_of ns) c.args.text.now f) c.as_slice.ensures.value c.in_ok-rule.ensures.1,
          ap (λ (rs : List (Option Form)). record { names = names_of (vec_items b.names); rules = rs }) (map-set rule_of b.slots c.args.slot (Some c.in_ok-rule.rule)),
        ),
      );
      honest = λ _ _. refl;
    }

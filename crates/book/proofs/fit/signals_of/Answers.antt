use Rattle.std.proofs.Common.{ℕ, Bool, false, ◌||◌, min, get_or, rules, tests, ap, ◌∙◌}
use Rattle.std.specs.List.{filter, range_with_len}
use Rattle.std.proofs.lemmas.Iterator.{YieldsList-from_range, YieldsList-from_take}
use Rattle.std.proofs.lemmas.Iterator.Consumers.{YieldsList-at, YieldsList-from_filter, count_from_yields_List}
use Rattle.std.proofs.lemmas.List.{length-take}
use Rattle.std.proofs.lemmas.List.Sums.{length-filter}
use Rattle.logic.specs.Basics.{occurs}
use Rattle.book.specs.Rules.{rules_of, together}
use Rattle.book.proofs.fit.signals_of.Goals as goal

pub returns : goal.returns
returns c =
    let p : ℕ → Bool = λ g. get_or c.args.seen.now.signals g false || occurs (together (rules_of c.args.slots.now)) g in
    count_from_yields_List c.take.result c.count.result c.count.ensures.ran
    (YieldsList-from_take c.args.most
    (YieldsList-at c.take.ensures.source
    (YieldsList-from_filter _ p (YieldsList-at c.filter.ensures.source (YieldsList-from_range 0 16 16 (cc) (cc))) c.filter.ensures.closure (λ x r q k. search (rules, tests))))
    c.take.ensures.count)
    ∙ length-take c.args.most (filter p (range_with_len 0 16))
    ∙ ap (λ (n : ℕ). min c.args.most n) (length-filter p (range_with_len 0 16))

use Rattle.std.proofs.Common.{ℕ, true, false, List, Some, Ok, Vec, refl, ap, subst}
use Rattle.std.specs.declared.alloc.Global.{Global}
use Rattle.faults.specs.declared.causes.BookCause.{BookCause}
use Rattle.faults.specs.declared.fault.Fault.{Fault}
use Rattle.faults.specs.Refusals.{book_refusal}
use Rattle.reading.specs.Names.{names_of}
use Rattle.grammar.specs.Answers.{SurveyedAs}
use Rattle.book.specs.Standing.{state_of}
use Rattle.book.proofs.Holding.{rules_long}
use Rattle.book.proofs.Taking.{surveyed}
use Rattle.book.proofs.book.Book.can_take.Goals as goal

pub returns-then-fits : goal.returns-then-fits
returns-then-fits c =
    let b = c.args.self.now in
    let v = c.in_ok-seen.seen in
    surveyed (state_of b) c.args.slot c.args.text.now v true _ (rules_long b.slots b.eight) c.in_ok-has_place.ensures
    (subst (λ (ns : List (Vec ℕ Global)). SurveyedAs (names_of ns) c.args.text.now (Ok v)) c.as_slice.ensures.value c.in_ok-seen.ensures)
    c.if-fits.ensures
    refl

pub returns-else-fits : goal.returns-else-fits
returns-else-fits c =
    let b = c.args.self.now in
    let v = c.in_ok-seen.seen in
    surveyed (state_of b) c.args.slot c.args.text.now v false _ (rules_long b.slots b.eight) c.in_ok-has_place.ensures
    (subst (λ (ns : List (Vec ℕ Global)). SurveyedAs (names_of ns) c.args.text.now (Ok v)) c.as_slice.ensures.value c.in_ok-seen.ensures)
    c.if-fits.ensures
    (ap (λ (e : Fault BookCause). Some (book_refusal e)) c.at.ensures)

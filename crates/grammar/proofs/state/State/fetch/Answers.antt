use Rattle.std.proofs.Common.{ap}
use Rattle.faults.specs.declared.causes.ReadingCause.TheVariants.{Words}
use Rattle.grammar.proofs.Fetching.{fetched_err, told_none, told_some, told_long, told_bad}
use Rattle.grammar.proofs.state.State.fetch.Goals as goal

pub returns-in_err-self-clause-told : goal.returns-in_err-self-clause-told
returns-in_err-self-clause-told c =
    let s = c.args.self.now in
    let u = c.next.new.self in
    let e = c.in_err-self.field-0.0 in
    fetched_err c.from_residual.result (record { cause = Words e.cause; place = e.place }) _ _ c.from_residual.ensures.1
    (told_bad s.reader.text.now u.text.now (ap (λ t. t.now) c.next.ensures.same) s.reader.at u.at s.count s.reader.within e c.in_err-self.ensures.answer)

pub returns-in_err-self-2-clause-told : goal.returns-in_err-self-2-clause-told
returns-in_err-self-2-clause-told c =
    let s = c.args.self.now in
    let u = c.next.new.self in
    let e = c.in_err-self-2.field-0.0 in
    fetched_err c.from_residual-in_err-self-2.result e _ _ c.from_residual-in_err-self-2.ensures.1
    (told_long s.reader.text.now u.text.now (ap (λ t. t.now) c.next.ensures.same) s.reader.at u.at s.count s.reader.within c.in_ok-self.field-0 c.in-Some.p e c.in-Some.is c.in_ok-self.ensures.answer c.in_err-self-2.ensures)

pub returns-in_ok-self-2-clause-told : goal.returns-in_ok-self-2-clause-told
returns-in_ok-self-2-clause-told c =
    let s = c.args.self.now in
    let u = c.next.new.self in
    told_some s.reader.text.now u.text.now (ap (λ t. t.now) c.next.ensures.same) s.reader.at u.at s.count s.reader.within c.in_ok-self.field-0 c.in-Some.p c.in_ok-self-2.field-0 c.in-Some.is c.in_ok-self.ensures.answer c.in_ok-self-2.ensures

pub returns-in_default-clause-told : goal.returns-in_default-clause-told
returns-in_default-clause-told c =
    let s = c.args.self.now in
    let u = c.next.new.self in
    told_none s.reader.text.now u.text.now (ap (λ t. t.now) c.next.ensures.same) s.reader.at u.at s.count s.reader.within c.in_ok-self.field-0 _ c.in_default.not-Some c.in_ok-self.ensures.answer

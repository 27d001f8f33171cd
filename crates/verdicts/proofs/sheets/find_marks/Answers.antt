use Rattle.std.proofs.Common.{◌≡◌, ℕ, ◌+◌, ◌≤◌, Bool, true, false, cond, Some, None, Option, length, nat_le, refl, ap, ◌∙◌, subst, arith}
use Rattle.search.specs.declared.shape.Shape.{Shape}
use Rattle.std.proofs.lemmas.Bool.{leb-true, true≢false}
use Rattle.std.specs.Option.{is_some}
use Rattle.faults.specs.Refusals.{Refusal}
use Rattle.plant.specs.Meaning.{Meaning}
use Rattle.search.proofs.Recoding.{rewritten_front}
use Rattle.search.specs.Search.{Found, most, work_cause, walk_cause, first, search_cause}
use Rattle.verdicts.proofs.sheets.find_marks.Goals as goal

-- where nothing is refused, the walk area is long enough for what a search writes
granted : (b : Bool) (r : Refusal) → cond b None (Some r) ≡ None → b ≡ true
granted true r e = refl
granted false r e = absurd (true≢false (ap is_some e))

second : (o p : Option Refusal) → first o p ≡ None → p ≡ None
second None p e = e
second (Some r) p e = absurd (true≢false (ap is_some e))

space : (m : Meaning) (work walk : ℕ) → search_cause m work walk ≡ None → most m ≤ walk
space m work walk e = leb-true (most m) walk (granted (nat_le (most m) walk) _ (second (work_cause m work) (walk_cause m walk) e))

-- the marks stand over the states that the search wrote
pub returns-in-Some-clause-answer : goal.returns-in-Some-clause-answer
returns-in-Some-clause-answer g c =
    let m = g.P.Plant.meaning c.args.plant.now in
    let walked = c.search.new.walk in
    let drawn = subst (λ (o : Option Shape). Found o m c.args.sheet.now walked) c.in-Some.is c.in_ok-found.ensures.answer in
    let fits : c.in-Some.shape.stem + c.in-Some.shape.turn ≤ length walked = omega (arith, drawn.short, drawn.long, space m _ _ c.in_ok-found.ensures.checked) in
    let wrote = rewritten_front (λ s w. w ≡ m.marks s) (c.in-Some.shape.stem + c.in-Some.shape.turn) walked c.write_marks.new.walk fits c.write_marks.ensures in
    record {
      states = walked;
      walk = drawn.lasso;
      marks = wrote.below;
      short = drawn.short;
      long = wrote.long ∙ drawn.long;
      rest = λ q h. wrote.above q h ∙ drawn.rest q h;
    }

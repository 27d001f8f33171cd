use Rattle.std.proofs.Common.{ap, ◌∙◌, subst}
use Rattle.plant.specs.Meaning.{Meaning, Least}
use Rattle.joint.specs.Pair.{joint}
use Rattle.nesting.proofs.first_start_of_three.Goals as goal

pub returns : goal.returns
returns g c =
    let P : Meaning → Type 0 = λ m. Least m.start 0 c.first_start.result in
    let whole : Meaning → Meaning = λ m. joint m (g.C.Plant.meaning c.args.c.now) in
    subst P (c.join-outer.ensures.means ∙ ap whole c.join-inner.ensures.means) c.first_start.ensures

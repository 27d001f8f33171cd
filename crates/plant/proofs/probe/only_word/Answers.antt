use Rattle.std.proofs.Common.{◌≡◌, sym, ap, ◌∙◌, arith}
use Rattle.plant.proofs.Shown.{clear_bit, only_shown}
use Rattle.plant.proofs.probe.only_word.Goals as goal

pub returns : goal.returns
returns c =
    let clear : c.match-value.clear ≡ clear_bit c.args.value =
    elim c.match-value.branch [
      | goal.in-On w ↦ w.clear-is ∙ ap clear_bit (sym w.in-On.is)
      | goal.in-Off w ↦ w.clear-is ∙ ap clear_bit (sym w.in-Off.is)
    ] in
    only_shown c.args.value c.args.signal c.match-value.clear (omega (arith, c.requires)) clear

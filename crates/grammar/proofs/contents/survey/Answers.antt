use Rattle.std.proofs.Common.{length, ◌∙◌, arith}
use Rattle.reading.specs.Names.{names_of}
use Rattle.grammar.proofs.Counting.{few_ops_in}
use Rattle.grammar.proofs.Surveying.{at_end, tells}
use Rattle.grammar.proofs.contents.survey.Goals as goal

pub with-seen-requires : goal.with-seen-requires
with-seen-requires c = omega (arith, c.loop-s.invariant.counted, few_ops_in c.args.text.now)

pub returns-then-is_whole : goal.returns-then-is_whole
returns-then-is_whole c =
    let names = names_of c.args.names.now in
    let sofar = c.loop-s.invariant in (
      at_end names c.args.text.now c.loop-s.s c.loop-s.at c.loop-s.seen sofar c.in_default.is ∙ c.if-is_whole.ensures names (length c.args.text.now),
      tells names c.args.text.now c.loop-s.s c.loop-s.at c.loop-s.seen sofar c.in_default.is,
    )

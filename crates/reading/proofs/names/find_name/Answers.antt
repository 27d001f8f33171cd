use Rattle.std.proofs.Common.{sym, ◌∙◌}
use Rattle.reading.proofs.Looking.{found_first}
use Rattle.reading.proofs.names.find_name.Goals as goal

pub returns-clause-value : goal.returns-clause-value
returns-clause-value c = c.first_place.ensures.place ∙ sym (found_first c.args.names.now c.args.name.now)

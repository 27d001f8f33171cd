use Rattle.std.proofs.Common.{◌≡◌, ◌∙◌, rules}
use Rattle.grammar.proofs.Declared.{within_sixteen}
use Rattle.grammar.proofs.signal.signal_of.Goals as goal

pub returns-clause-value : goal.returns-clause-value
returns-clause-value c =
    let same : c.map.result ≡ c.find_name.result = search rules in
    same ∙ c.find_name.ensures.value ∙ within_sixteen c.args.names.now c.args.name.now c.min-count.result c.min-count.ensures

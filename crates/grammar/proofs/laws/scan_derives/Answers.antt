use Rattle.grammar.proofs.Descent.{granted_derives, derives_granted}
use Rattle.grammar.proofs.laws.scan_derives.Goals as goal

pub returns : goal.returns
returns c = λ names text. (granted_derives names text, derives_granted names text)

use Rattle.std.proofs.Common.{◌∙◌}
use Rattle.book.proofs.Naming.{named}
use Rattle.book.proofs.declares.is_name.Goals as goal

pub returns-in-Ok-Some : goal.returns-in-Ok-Some
returns-in-Ok-Some c = c.is_name_of.ensures ∙ named c.args.name _ _ _ c.new.ensures.0 c.new.ensures.1 (rw c.in-Ok-Some.field-0-is at c.in-Ok-Some.ensures).answer

pub returns-in-Ok-None : goal.returns-in-Ok-None
returns-in-Ok-None c = named c.args.name _ _ _ c.new.ensures.0 c.new.ensures.1 (rw c.in-Ok-None.field-0-is at c.in-Ok-None.ensures).answer

pub returns-in-Err : goal.returns-in-Err
returns-in-Err c = named c.args.name _ _ _ c.new.ensures.0 c.new.ensures.1 c.in-Err.ensures.answer

use Rattle.std.proofs.Common.{length, sym, ap, ◌∙◌}
use Rattle.faults.specs.declared.causes.ReadingCause.{ReadingCause}
use Rattle.faults.specs.declared.fault.Fault.{Fault}
use Rattle.reading.specs.Names.{names_of}
use Rattle.grammar.specs.Scan.{refusal}
use Rattle.grammar.specs.Ahead.{ahead_on, after}
use Rattle.grammar.proofs.Whole.{begun, finished_at, misfit_at}
use Rattle.grammar.proofs.Unique.{one_formula_lem}
use Rattle.grammar.proofs.parse.read.Goals as goal

pub returns-in-None : goal.returns-in-None
returns-in-None g c =
    let names = names_of c.args.names.now in
    let made = c.new-s.ensures in
    let start = begun c.args.text.now _ _ _ _ (ap (λ t. t.now) made.0) made.1 made.3 c.in_ok-fetch.ensures.told in
    let u = c.formula.new.s in
    let done = finished_at names c.args.text.now start c.in_ok-f.ensures.read.0 (length u.reader.text.now) (ap (λ o. ahead_on o (length u.reader.text.now) (after u)) c.in-None.is) in
    (done.1, done.0, λ g h. one_formula_lem names c.args.text.now g _ h done.0)

pub returns-in-Some : goal.returns-in-Some
returns-in-Some g c =
    let names = names_of c.args.names.now in
    let made = c.new-s.ensures in
    let start = begun c.args.text.now _ _ _ _ (ap (λ t. t.now) made.0) made.1 made.3 c.in_ok-fetch.ensures.told in
    let u = c.formula.new.s in
    let told = c.in_ok-f.ensures.read in
    misfit_at names c.args.text.now start told.0 _ _ (after u) told.1 (ap (λ o. ahead_on o (length u.reader.text.now) (after u)) c.in-Some.is)
    ∙ ap (λ (e : Fault ReadingCause). refusal e.cause e.place) (sym c.at.ensures)

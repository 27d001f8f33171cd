use Rattle.std.proofs.Common.{ℕ, ◌≤◌, List, length, vec_items, ap, ◌∙◌, subst}
use Rattle.reading.specs.Tokens.{tok_of, lex}
use Rattle.reading.specs.Rows.{ends, stops}
use Rattle.reading.proofs.Rows.{row_token, row_ends, row_stops}
use Rattle.protocol.proofs.Growing.{one_more, last}
use Rattle.protocol.proofs.tokens.listing.Goals as goal

pub loop-placed-preserved : goal.loop-placed-preserved
loop-placed-preserved c =
    let text = c.args.text.now in
    let r = c.loop-placed.reader in
    let same = c.loop-placed.invariant.0 in
    let told = c.in-Ok-Some.ensures in
    let p = c.in-Ok-Some.placed in
    let within : r.at ≤ length text = subst (λ (t : List ℕ). r.at ≤ length t) same r.within in (
      ap (λ t. t.now) told.same ∙ same,
      one_more (vec_items c.loop-placed.out) (tok_of p.token) p.place
          (row_token text r.at c.next.new.self.at within c.in-Ok-Some.field-0 p c.in-Ok-Some.field-0-is (told.answer ∙ ap (λ (t : List ℕ). lex t r.at) same))
          c.in_ok-put_token-in-Ok-Some.ensures c.loop-placed.invariant.1,
    )

pub returns-in-Ok-None : goal.returns-in-Ok-None
returns-in-Ok-None c =
    let text = c.args.text.now in
    let r = c.loop-placed.reader in
    let same = c.loop-placed.invariant.0 in
    let within : r.at ≤ length text = subst (λ (t : List ℕ). r.at ≤ length t) same r.within in
    last (vec_items c.loop-placed.out) (ends (length text))
    (row_ends text r.at c.next.new.self.at within c.in-Ok-None.field-0 c.in-Ok-None.field-0-is (c.in-Ok-None.ensures.answer ∙ ap (λ (t : List ℕ). lex t r.at) same))
    c.in_ok-put_end-in-Ok-None.ensures c.loop-placed.invariant.1

pub returns-in-Err : goal.returns-in-Err
returns-in-Err c =
    let text = c.args.text.now in
    let r = c.loop-placed.reader in
    let same = c.loop-placed.invariant.0 in
    let e = c.in-Err.fault in
    let within : r.at ≤ length text = subst (λ (t : List ℕ). r.at ≤ length t) same r.within in
    last (vec_items c.loop-placed.out) (stops e.cause e.place)
    (row_stops text r.at c.next.new.self.at within e (c.in-Err.ensures.answer ∙ ap (λ (t : List ℕ). lex t r.at) same))
    c.in_ok-put_fault-in-Err.ensures c.loop-placed.invariant.1

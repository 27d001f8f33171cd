use Rattle.std.proofs.Common.{◌≡◌, ◌-◌, ◌++◌, length, vec_items}
use Rattle.reading.specs.Rows.{row_from, row}
use Rattle.protocol.specs.Listings.{listed}
use Rattle.protocol.proofs.tokens.listing.Given as goal

abbrev pub invariant-loop-placed : goal.invariant-loop-placed
invariant-loop-placed l = (l.reader.text.now ≡ l.text) × (vec_items l.out ++ listed (row_from l.text l.reader.at) ≡ listed (row l.text))

abbrev pub decreases-loop-placed : goal.decreases-loop-placed
decreases-loop-placed l = length l.text - l.reader.at

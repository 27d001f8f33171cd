-- What a table means: unfit, or the rows of its load. Assumes nothing.
use Rattle.std.specs.Prelude.{◌≡◌, ℕ, ◌<◌, ◌≤◌, length, Some, None, Option}
use Rattle.plant.specs.Meaning.{Meaning}
use Rattle.plant.specs.Unfit.{unfit}
use Rattle.table.specs.Rows.{row, table}
use Rattle.table.specs.declared.rows.StateRow.{StateRow}
use Rattle.table.specs.declared.table.Rows.{Rows}
use Rattle.table.specs.declared.table.Table.{Table}

-- the table of the rows once they are loaded
abbrev pub loaded : Option Rows → Meaning
loaded (Some r) = table r.states.now r.edges.now r.promises
loaded None = unfit

abbrev pub means : Table → Meaning
means x = loaded x.rows

-- the row of the state s among these, or absent past them
abbrev pub RowAmong : Option Rows → ℕ → Option StateRow → Type 0
RowAmong (Some r) s (Some x) = (s < length r.states.now) × (x ≡ row r.states.now s)
RowAmong (Some r) s None = length r.states.now ≤ s
RowAmong None s (Some x) = ⊥
RowAmong None s None = Unit {0}

abbrev pub RowIs : Table → ℕ → Option StateRow → Type 0
RowIs x s r = RowAmong x.rows s r

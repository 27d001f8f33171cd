-- What a table's rows mean. Assumes nothing.
use Rattle.std.specs.Prelude.{ℕ, ◌/◌, ◌%◌, ◌^◌, Bool, true, false, ◌&&◌, ◌||◌, List, [], ◌∷◌, length, ◌==◌, slice_index_or}
use Rattle.logic.specs.Marks.{all_either}
use Rattle.plant.specs.Meaning.{Meaning}
use Rattle.table.specs.declared.rows.StateRow.{StateRow}
use Rattle.table.specs.declared.rows.EdgeRow.{EdgeRow}

-- what stands past the rows: no start, nothing fulfilled, all marks either
abbrev pub no_row : StateRow
no_row = record { start = false; fulfils = 0; marks = all_either }

abbrev pub no_edge : EdgeRow
no_edge = record { from = 0; to = 0 }

abbrev pub row : List StateRow → ℕ → StateRow
row rows s = slice_index_or rows s no_row

abbrev pub edge : List EdgeRow → ℕ → EdgeRow
edge edges i = slice_index_or edges i no_edge

-- the bit k of the word
abbrev pub bit : ℕ → ℕ → Bool
bit w k = (w / 2 ^ k) % 2 == 1

-- one of the edges leads from s to t
abbrev pub has_edge : List EdgeRow → ℕ → ℕ → Bool
has_edge [] s t = false
has_edge (e ∷ es) s t = (e.from == s && e.to == t) || has_edge es s t

-- a state for each state row, a step for each edge row, and p promises
abbrev pub table : List StateRow → List EdgeRow → ℕ → Meaning
table rows edges p = record {
  fit = true;
  states = length rows;
  promises = p;
  start = λ s. (row rows s).start;
  step = λ s t. has_edge edges s t;
  fulfils = λ s k. bit (row rows s).fulfils k;
  marks = λ s. (row rows s).marks;
}

-- What a table answers past its promises. Assumes nothing.
use Rattle.std.proofs.Common.{◌≡◌, ℕ, ◌≤◌, false, Some, None, Option, sym, refl, inl, inr, arith}
use Rattle.std.proofs.lemmas.Bool.{cases_Bool}
use Rattle.table.specs.Rows.{row, bit}
use Rattle.table.specs.TableLawful.{promise_exists}
use Rattle.table.specs.Standing.{loaded}
use Rattle.table.specs.declared.table.Rows.{Rows}

-- no state fulfils a promise that does not exist
pub promise_past : (x : Option Rows) (s k : ℕ) → (loaded x).promises ≤ k → false ≡ (loaded x).fulfils s k
promise_past (Some r) s k h = elim (cases_Bool (bit (row r.states.now s).fulfils k)) [
  | inl e ↦ absurd (omega (arith, promise_exists r.states.now r.edges.now r.promises r.granted s k e))
  | inr e ↦ sym e
]
promise_past None s k h = refl

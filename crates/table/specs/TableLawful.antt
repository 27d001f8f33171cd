-- Rows that a load grants keep what a plant keeps. Assumes nothing.
use Rattle.std.specs.Prelude.{◌≡◌, ℕ, suc, ◌%◌, ◌^◌, ◌<◌, ◌≤◌, true, false, ◌&&◌, List, [], ◌∷◌, length, ◌==◌, nat_eq}
use Rattle.std.proofs.Common.{ap, ◌∙◌, inl, inr, arith}
use Rattle.std.proofs.Math.Nat.{zero-div}
use Rattle.std.proofs.lemmas.List.{get_or_past}
use Rattle.std.proofs.lemmas.Bool.{true≢false, false≢true, cases_lt, and_parts, or_cases, eqb-true, both_ways}
use Rattle.plant.specs.Meaning.{Lawful}
use Rattle.table.specs.Rows.{row, edge, no_row, bit, has_edge, table}
use Rattle.table.specs.Loads.{GoodEdge, Granted}
use Rattle.table.specs.declared.rows.StateRow.{StateRow}
use Rattle.table.specs.declared.rows.EdgeRow.{EdgeRow}

edge_ends : (n : ℕ) (es : List EdgeRow) (s t : ℕ) → ((i : ℕ) → i < length es → GoodEdge n (edge es i)) → has_edge es s t ≡ true → (s < n) × (t < n)
edge_ends n [] s t good e = absurd (false≢true e)
edge_ends n (x ∷ es) s t good e =
    elim (or_cases (x.from == s && x.to == t) (has_edge es s t) e) [
      | inl h ↦
          let both = and_parts (x.from == s) (x.to == t) h in
          let g = good 0 (omega arith) in
          (omega (arith, g.0, eqb-true x.from s both.0), omega (arith, g.1, eqb-true x.to t both.1))
      | inr h ↦ edge_ends n es s t (λ i l. good (suc i) (omega arith)) h
    ]

pub past_rows : (rows : List StateRow) (s : ℕ) → length rows ≤ s → row rows s ≡ no_row
past_rows rows s h = get_or_past rows s no_row h

pub no_bit : (k : ℕ) → bit 0 k ≡ false
no_bit k = ap (λ (x : ℕ). nat_eq (x % 2) 1) (zero-div (2 ^ k))

module _ (rows : List StateRow) (edges : List EdgeRow) (p : ℕ) where
  starts : (s : ℕ) → (row rows s).start ≡ true → s < length rows
  starts s e = elim (cases_lt s (length rows)) [
    | inl h ↦ h
    | inr h ↦ absurd (both_ways (row rows s).start (ap (λ (r : StateRow). r.start) (past_rows rows s h)) e)
  ]

  promised : (s k : ℕ) → bit (row rows s).fulfils k ≡ true → s < length rows
  promised s k e = elim (cases_lt s (length rows)) [
    | inl h ↦ h
    | inr h ↦ absurd (both_ways (bit (row rows s).fulfils k) (ap (λ (r : StateRow). bit r.fulfils k) (past_rows rows s h) ∙ no_bit k) e)
  ]

  -- a promise at or above p is fulfilled nowhere
  pub promise_exists : Granted rows edges p → (s k : ℕ) → bit (row rows s).fulfils k ≡ true → k < p
  promise_exists g s k e = elim (cases_lt k p) [
    | inl h ↦ h
    | inr h ↦ absurd ((g.1 s (promised s k e)).1 k h e)
  ]

  pub table_lawful : Granted rows edges p → Lawful (table rows edges p)
  table_lawful g = record {
    few_states = omega (arith, g.0.0);
    few_promises = omega (arith, g.0.2);
    unfit_states = λ e. absurd (true≢false e);
    unfit_promises = λ e. absurd (true≢false e);
    starts_exist = starts;
    steps_from = λ s t e. (edge_ends (length rows) edges s t g.2 e).0;
    steps_to = λ s t e. (edge_ends (length rows) edges s t g.2 e).1;
    fulfils_state = promised;
    fulfils_promise = promise_exists g;
    mark_some = λ s h. (g.1 s h).0;
    mark_none = λ s h. ap (λ (r : StateRow). r.marks) (past_rows rows s h);
  }

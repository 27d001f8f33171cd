-- The book's machine is lawful. Assumes nothing.
use Rattle.std.specs.Prelude.{◌≡◌, ℕ, ◌+◌, ◌^◌, ◌<◌, ◌≤◌, Bool, true, false, cond, not, ◌&&◌, ◌||◌, List, ◌∷◌, length, ◌≢◌, nat_lt, slice_index_or}
use Rattle.std.proofs.Common.{sym, ◌∙◌, inl, inr, arith, length-append, pow_mono}
use Rattle.std.proofs.Math.Path.{ap}
use Rattle.std.proofs.Math.ListN.{get_or-eq_default}
use Rattle.std.proofs.lemmas.Bool.{true≢false, false≢true, and_parts, cases_lt, ltb-true, lt-ltb, le-ltb, cond-true, cond-false, cond_both}
use Rattle.logic.specs.Marks.{mark, all_either}
use Rattle.logic.specs.Form.{Form, yes_form, no_form, signal, not_form, next_form, always, eventually, and_form, or_form, implies, until}
use Rattle.logic.specs.Basics.{occurs, rank, ops, signals, basics}
use Rattle.plant.specs.Meaning.{Lawful}
use Rattle.tableau.specs.Machine.{bit_on, holds, linked, kept, mark_of, mark_word, machine}
use Rattle.tableau.specs.Small.{Small}
use Rattle.logic.proofs.Words.{mark_word_at}

pub few_kept : (a : ℕ → ℕ) (f : Form) (k : ℕ) → length (kept a f k) ≤ ops f
few_kept a yes_form k = omega arith
few_kept a no_form k = omega arith
few_kept a (signal g) k = omega arith
few_kept a (not_form f) k = few_kept a f k
few_kept a (next_form f) k = omega (arith, few_kept a f (k + 1))
few_kept a (always f) k = omega (arith, few_kept a f (k + 1))
few_kept a (eventually f) k = omega (arith, few_kept a f (k + 1))
few_kept a (and_form f g) k = omega (arith, few_kept a f k, few_kept a g (k + ops f), length-append (kept a f k) (kept a g (k + ops f)))
few_kept a (or_form f g) k = omega (arith, few_kept a f k, few_kept a g (k + ops f), length-append (kept a f k) (kept a g (k + ops f)))
few_kept a (implies f g) k = omega (arith, few_kept a f k, few_kept a g (k + ops f), length-append (kept a f k) (kept a g (k + ops f)))
few_kept a (until f g) k =
    omega (
      arith,
      few_kept a f k,
      few_kept a g (k + ops f + 1),
      length-append (kept a f k) ((λ s. not (holds a (until f g) s k) || holds a g s (k + ops f + 1)) ∷ kept a g (k + ops f + 1)),
    )

module _ (f : Form) (s : ℕ) where
  pub mark_of_small : (g : ℕ) → mark_of f s g < 4
  mark_of_small g =
      cond_both (occurs f g) (cond (bit_on s (rank f g)) 1 2) 3 (λ x. x < 4)
      (λ _. cond_both (bit_on s (rank f g)) 1 2 (λ x. x < 4) (λ _. omega arith) (λ _. omega arith)) (λ _. omega arith)

  mark_of_some : (g : ℕ) → mark_of f s g ≢ 0
  mark_of_some g =
      cond_both (occurs f g) (cond (bit_on s (rank f g)) 1 2) 3 (λ x. x ≢ 0)
      (λ _. cond_both (bit_on s (rank f g)) 1 2 (λ x. x ≢ 0) (λ _ e. omega arith) (λ _ e. omega arith)) (λ _ e. omega arith)

  -- each mark of an existing state
  pub marked : s < 2 ^ basics f → (g : ℕ) → g < 16 → mark ((machine f).marks s) g ≡ mark_of f s g
  unfolding mark_word
  marked h g l =
      ap (λ (x : ℕ). mark x g) (cond-true (nat_lt s (2 ^ basics f)) (mark_word f s) all_either (lt-ltb s (2 ^ basics f) h))
      ∙ mark_word_at (mark_of f s) mark_of_small 16 g l

  pub mark_some_at : s < 2 ^ basics f → (g : ℕ) → g < 16 → mark ((machine f).marks s) g ≢ 0
  mark_some_at h g l z = mark_of_some g (sym (marked h g l) ∙ z)

-- a promise that does not exist is nowhere fulfilled
no_promise : (xs : List (ℕ → Bool)) (s k : ℕ) → slice_index_or xs k (λ _. false) s ≡ true → k < length xs
no_promise xs s k e = elim (cases_lt k (length xs)) [
  | inl h ↦ h
  | inr h ↦ absurd (false≢true (ap (λ (p : ℕ → Bool). p s) (sym (get_or-eq_default xs (λ _. false) h)) ∙ e))
]

module _ (f : Form) (small : Small f) where
  pub machine_lawful : Lawful (machine f)
  machine_lawful =
      let n = 2 ^ basics f in
      let most : n ≤ 2 ^ 12 = pow_mono small.basics_few in
      record {
        few_states = omega arith;
        few_promises = omega (arith, few_kept (rank f) f (signals f), small.basics_few);
        unfit_states = λ e. absurd (true≢false e);
        unfit_promises = λ e. absurd (true≢false e);
        starts_exist = λ s e. ltb-true s n (and_parts (nat_lt s n) (holds (rank f) f s (signals f)) e).0;
        steps_from = λ s t e. ltb-true s n (and_parts (nat_lt s n) (nat_lt t n && linked (rank f) f s t (signals f)) e).0;
        steps_to = λ s t e. ltb-true t n (and_parts (nat_lt t n) (linked (rank f) f s t (signals f)) (and_parts (nat_lt s n) (nat_lt t n && linked (rank f) f s t (signals f)) e).1).0;
        fulfils_state = λ s k e. ltb-true s n (and_parts (nat_lt s n) (slice_index_or (kept (rank f) f (signals f)) k (λ _. false) s) e).0;
        fulfils_promise = λ s k e. no_promise (kept (rank f) f (signals f)) s k (and_parts (nat_lt s n) (slice_index_or (kept (rank f) f (signals f)) k (λ _. false) s) e).1;
        mark_some = λ s h g l. mark_some_at f s h g l;
        mark_none = λ s h. cond-false (nat_lt s n) (mark_word f s) all_either (le-ltb s n h);
      }

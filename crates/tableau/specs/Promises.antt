-- The promises one by one, as code asks for them. Assumes nothing.
use Rattle.std.specs.Prelude.{◌≡◌, ℕ, ◌+◌, ◌-◌, Bool, false, cond, not, ◌||◌, length, ◌==◌, nat_lt, slice_index_or}
use Rattle.logic.specs.Form.{Form, yes_form, no_form, signal, not_form, next_form, always, eventually, and_form, or_form, implies, until}
use Rattle.logic.specs.Basics.{ops}
use Rattle.tableau.specs.Machine.{holds, kept}

-- how many occurrences of `until`, `eventually` and `always`
abbrev pub proms : Form → ℕ
proms yes_form = 0
proms no_form = 0
proms (signal g) = 0
proms (not_form f) = proms f
proms (next_form f) = proms f
proms (always f) = proms f + 1
proms (eventually f) = proms f + 1
proms (and_form f g) = proms f + proms g
proms (or_form f g) = proms f + proms g
proms (implies f g) = proms f + proms g
proms (until f g) = proms f + 1 + proms g

-- the state s fulfils the promise p
abbrev pub kept_at : (ℕ → ℕ) → Form → ℕ → ℕ → ℕ → Bool
kept_at a yes_form s k p = false
kept_at a no_form s k p = false
kept_at a (signal g) s k p = false
kept_at a (not_form f) s k p = kept_at a f s k p
kept_at a (next_form f) s k p = kept_at a f s (k + 1) p
kept_at a (always f) s k p = cond (p == 0) (holds a (always f) s k || not (holds a f s (k + 1))) (kept_at a f s (k + 1) (p - 1))
kept_at a (eventually f) s k p = cond (p == 0) (not (holds a (eventually f) s k) || holds a f s (k + 1)) (kept_at a f s (k + 1) (p - 1))
kept_at a (and_form f g) s k p = cond (nat_lt p (proms f)) (kept_at a f s k p) (kept_at a g s (k + ops f) (p - proms f))
kept_at a (or_form f g) s k p = cond (nat_lt p (proms f)) (kept_at a f s k p) (kept_at a g s (k + ops f) (p - proms f))
kept_at a (implies f g) s k p = cond (nat_lt p (proms f)) (kept_at a f s k p) (kept_at a g s (k + ops f) (p - proms f))
kept_at a (until f g) s k p =
    cond (nat_lt p (proms f)) (kept_at a f s k p)
    (cond (p - proms f == 0) (not (holds a (until f g) s k) || holds a g s (k + ops f + 1)) (kept_at a g s (k + ops f + 1) (p - proms f - 1)))

abbrev pub PromisesRight : Type 0
PromisesRight = (a : ℕ → ℕ) (f : Form) (k : ℕ) → (length (kept a f k) ≡ proms f) × ((s p : ℕ) → slice_index_or (kept a f k) p (λ _. false) s ≡ kept_at a f s k p)

-- How a tally grows. Assumes nothing.
use Rattle.std.proofs.Common.{◌≡◌, ℕ, zero, suc, ◌+◌, ◌-◌, ◌<◌, ◌≤◌, Bool, true, false, cond, refl, ap, ◌∙◌, add-zero, add-suc, add-one, arith}
use Rattle.std.specs.List.{count_by, range_with_len}
use Rattle.logic.specs.Basics.{tally}

pub tally_more : (n : ℕ) (p : ℕ → Bool) → tally (n + 1) p ≡ tally n p + cond (p n) 1 0
unfolding tally
tally_more n p = rw add-one refl

pub tally_grows : (k n : ℕ) (p : ℕ → Bool) → tally n p ≤ tally (n + k) p
unfolding tally
tally_grows zero n p = rw add-zero (omega arith)
tally_grows (suc k) n p = rw add-suc (let h = tally_grows k n p in omega arith)

pub tally_mono : (n m : ℕ) (p : ℕ → Bool) → n ≤ m → tally n p ≤ tally m p
tally_mono n m p h = let e : n + (m - n) ≡ m = omega arith in rw e at (tally_grows (m - n) n p)

pub tally_same : (n : ℕ) (p q : ℕ → Bool) → ((k : ℕ) → k < n → p k ≡ q k) → tally n p ≡ tally n q
unfolding tally
tally_same zero p q h = refl
tally_same (suc n) p q h = ap (λ (x : ℕ). x + cond (p n) 1 0) (tally_same n p q (λ k l. h k (omega arith))) ∙ ap (λ (b : Bool). tally n q + cond b 1 0) (h n (omega arith))

one_le : (a b : Bool) → (a ≡ true → b ≡ true) → cond a 1 0 ≤ cond b 1 0
one_le false b h = omega arith
one_le true b h = rw (h refl) (omega arith)

pub tally_le : (n : ℕ) (p q : ℕ → Bool) → ((k : ℕ) → p k ≡ true → q k ≡ true) → tally n p ≤ tally n q
unfolding tally
tally_le zero p q h = omega arith
tally_le (suc n) p q h = let a = tally_le n p q h in let b = one_le (p n) (q n) (h n) in omega arith

-- a tally is a count
pub tally_counts : (p : ℕ → Bool) → tally 16 p ≡ count_by p (range_with_len 0 16)
unfolding tally
tally_counts p = omega arith

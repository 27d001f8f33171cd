-- A bit put in front of a number. Assumes nothing.
use Rattle.std.proofs.Common.{◌≡◌, ℕ, ◌+◌, ◌*◌, ◌%◌, ◌^◌, ◌<◌, Bool, true, false, cond, eqb, refl, ap, ◌∙◌, arith}
use lib.Pow.{high, low}
use Rattle.logic.proofs.Words.{low_field, front_below}
use Rattle.tableau.specs.Machine.{bit_on}

abbrev pub digit : Bool → ℕ
digit b = cond b 1 0

digit_small : (b : Bool) → digit b < 2 ^ 1
digit_small true = omega arith
digit_small false = omega arith

digit_back : (b : Bool) → eqb (digit b % 2) 1 ≡ b
digit_back true = refl
digit_back false = refl

pub push : ℕ → ℕ → Bool → ℕ
push k s b = digit b * 2 ^ k + s

module _ (k s : ℕ) (b : Bool) (h : s < 2 ^ k) where
  pub push_below : push k s b < 2 ^ (k + 1)
  unfolding push
  push_below = front_below (digit b) s k 1 (digit_small b) h

  pub push_here : bit_on (push k s b) k ≡ b
  unfolding push
  push_here = ap (λ (m : ℕ). eqb (m % 2) 1) (high (digit b) k h) ∙ digit_back b

  pub push_before : (q : ℕ) → q < k → bit_on (push k s b) q ≡ bit_on s q
  unfolding push
  push_before q l = ap (λ (m : ℕ). eqb m 1) (low_field (digit b * 2 ^ k + s) s k q 1 (low (digit b) k h) (omega arith))

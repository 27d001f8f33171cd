-- Words none of whose bits is set from some bit on. Assumes nothing.
use Rattle.std.proofs.Common.{◌≡◌, ℕ, zero, suc, ◌+◌, ◌*◌, ◌/◌, ◌%◌, ◌^◌, ◌<◌, ◌≤◌, true, sym, ap, ◌∙◌, arith, pow_mono, pow-add}
use Rattle.std.proofs.lemmas.Nat.{shr-shr, shr_split, mod_below, pow_pos, div_below}
use Rattle.std.proofs.lemmas.Bool.{eqb-true, eq-eqb}
use Rattle.table.specs.Rows.{bit}

-- a word without a set bit is zero
no_bits : (n w : ℕ) → w < 2 ^ n → ((k : ℕ) → bit w k ≡ true → ⊥) → w ≡ 0
no_bits zero w h none = omega arith
no_bits (suc n) w h none =
    let double : 2 ^ (1 + n) ≡ 2 * 2 ^ n = pow-add 2 1 n in
    let same : 2 ^ (1 + n) ≡ 2 ^ suc n = ap (λ (m : ℕ). 2 ^ m) (omega arith) in
    let first : w / 2 ^ 0 % 2 ≡ 1 → ⊥ = λ e. none 0 (eq-eqb _ 1 e) in
    let even : w % 2 ≡ 1 → ⊥ = λ e. first (omega arith) in
    let half : w / 2 ≡ 0 = no_bits n (w / 2) (omega arith) (λ k e.
    none (1 + k) (eq-eqb _ 1 (ap (λ (x : ℕ). x % 2) (sym (shr-shr w 1 k)) ∙ eqb-true _ 1 e))) in
    omega arith

small_shifts : (w p k : ℕ) → w < 2 ^ p → p ≤ k → w / 2 ^ k ≡ 0
small_shifts w p k h l =
    let more : 2 ^ p ≤ 2 ^ k = pow_mono l in
    omega (arith, div_below w (2 ^ k) 1 (pow_pos k) (omega arith))

pub shr_none : (w p : ℕ) → w / 2 ^ p ≡ 0 → w < 2 ^ p
shr_none w p e =
    let z : (w / 2 ^ p) * 2 ^ p ≡ 0 * 2 ^ p = ap (λ x. x * 2 ^ p) e in
    omega (arith, shr_split w p, mod_below w (2 ^ p) (pow_pos p))

-- nothing is left after a shift by p exactly when no bit at or above p is set
pub none_above : (w p : ℕ) → w / 2 ^ p ≡ 0 → (k : ℕ) → p ≤ k → bit w k ≡ true → ⊥
none_above w p e k l b =
    let gone : w / 2 ^ k ≡ 0 = small_shifts w p k (shr_none w p e) l in
    omega (arith, eqb-true (w / 2 ^ k % 2) 1 b)

pub above_none : (w p n : ℕ) → w / 2 ^ p < 2 ^ n → ((k : ℕ) → p ≤ k → bit w k ≡ true → ⊥) → w / 2 ^ p ≡ 0
above_none w p n h none =
    no_bits n (w / 2 ^ p) h (λ k e. none (p + k) (omega arith) (eq-eqb _ 1 (ap (λ (x : ℕ). x % 2) (sym (shr-shr w p k)) ∙ eqb-true _ 1 e)))

-- so a word without a bit at or above p is below 2 ^ p
pub below_pow : (w p n : ℕ) → w / 2 ^ p < 2 ^ n → ((k : ℕ) → p ≤ k → bit w k ≡ true → ⊥) → w < 2 ^ p
below_pow w p n h none = shr_none w p (above_none w p n h none)

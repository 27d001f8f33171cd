-- Numbers of few digits. Assumes nothing.
use Rattle.std.proofs.Common.{ℕ, zero, suc, ◌+◌, ◌*◌, ◌<◌, ◌≤◌, arith}

-- what i bytes, each of which adds at most 207, cannot pass
abbrev pub most : ℕ → ℕ
most zero = 0
most (suc zero) = 207
most (suc (suc zero)) = 2277
most (suc (suc (suc zero))) = 22977
most (suc (suc (suc (suc i)))) = 229977

pub most_more : (i n d : ℕ) → i < 4 → n ≤ most i → d ≤ 207 → n * 10 + d ≤ most (i + 1)
most_more zero n d h l k = omega arith
most_more (suc zero) n d h l k = omega arith
most_more (suc (suc zero)) n d h l k = omega arith
most_more (suc (suc (suc zero))) n d h l k = omega arith
most_more (suc (suc (suc (suc i)))) n d h l k = absurd (omega arith)

pub most_small : (i : ℕ) → most i ≤ 229977
most_small zero = omega arith
most_small (suc zero) = omega arith
most_small (suc (suc zero)) = omega arith
most_small (suc (suc (suc zero))) = omega arith
most_small (suc (suc (suc (suc i)))) = omega arith

-- The mark word that a probe computes. Assumes nothing.
use Rattle.std.proofs.Common.{◌≡◌, ℕ, zero, suc, ◌+◌, ◌-◌, ◌*◌, ◌%◌, ◌^◌, ◌<◌, ◌≤◌, Bool, true, ◌&&◌, eqb, refl, ap, ◌∙◌, arith}
use Rattle.std.proofs.lemmas.Nat.{shl_whole}
use Rattle.std.proofs.lemmas.Bool.Decides.{Decides-below_and, Decides-eqb}
use Rattle.logic.specs.Marks.{word}
use Rattle.plant.specs.Path.{only}
use Rattle.plant.specs.declared.probe.Value.{Value}
use Rattle.plant.specs.declared.probe.Value.TheVariants.{On, Off}

-- the bit that is clear in the mark of the value
abbrev pub clear_bit : Value → ℕ
clear_bit On = 2
clear_bit Off = 1

-- the word computed for each of the first n signals, as a test
abbrev shows : Value → ℕ → Bool
shows v zero = true
shows v (suc g) = eqb (4294967295 - clear_bit v * 2 ^ (2 * g)) (only g v) && shows v g

all_shown : (v : Value) → shows v 16 ≡ true
unfolding word
all_shown On = refl
all_shown Off = refl

pub only_computed : (v : Value) (g : ℕ) → g < 16 → 4294967295 - clear_bit v * 2 ^ (2 * g) ≡ only g v
only_computed v =
    (Decides-below_and (λ g. eqb (4294967295 - clear_bit v * 2 ^ (2 * g)) (only g v)) (λ g. 4294967295 - clear_bit v * 2 ^ (2 * g) ≡ only g v) (shows v)
    (λ g. Decides-eqb (4294967295 - clear_bit v * 2 ^ (2 * g)) (only g v)) refl (λ _. refl) 16).0 (all_shown v)

clear_small : (v : Value) → clear_bit v < 4
clear_small On = omega arith
clear_small Off = omega arith

pub only_shown : (v : Value) (g o : ℕ) → g < 16 → o ≡ clear_bit v → 4294967295 - (o * 2 ^ (2 * g)) % 4294967296 ≡ only g v
only_shown v g o h e =
    let k : 2 + 2 * g ≤ 32 = omega arith in
    ap (λ (x : ℕ). 4294967295 - (x * 2 ^ (2 * g)) % 4294967296) e
    ∙ ap (λ (x : ℕ). 4294967295 - x) (shl_whole (clear_bit v) 2 (2 * g) 32 (clear_small v) k)
    ∙ only_computed v g h

-- The names that can be declared, as a part of the caller's. Assumes nothing.
use Rattle.std.proofs.Common.{◌≡◌, ℕ, ◌≤◌, min, List, length, take, vec_items, Vec, sym, ap, ◌∙◌, inl, inr, arith}
use Rattle.std.specs.declared.alloc.Global.{Global}
use Rattle.std.proofs.lemmas.List.{take_all, take-map}
use Rattle.std.proofs.lemmas.Bool.{cases_lt}
use Rattle.reading.specs.Names.{found, names_of}
use Rattle.grammar.specs.Signals.{signal_named}

front : {X : Type 0} (xs : List X) (n : ℕ) → n ≡ min (length xs) 16 → take n xs ≡ take 16 xs
front xs n e = elim (cases_lt 16 (length xs)) [
  | inl h ↦ (let k : n ≡ 16 = omega arith in ap (λ m. take m xs) k)
  | inr h ↦ (let k : length xs ≤ n = omega arith in take_all n xs k ∙ sym (take_all 16 xs h))
]

pub within_sixteen : (ns : List (Vec ℕ Global)) (w : List ℕ) (n : ℕ) → n ≡ min (length ns) 16 → found (names_of (take n ns)) w 0 ≡ signal_named (names_of ns) w
within_sixteen ns w n e = ap (λ xs. found (names_of xs) w 0) (front ns n e) ∙ ap (λ xs. found xs w 0) (sym (take-map vec_items 16 ns))

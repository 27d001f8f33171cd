-- The number of a name is the first place at which it stands. Assumes nothing.
use Rattle.std.proofs.Common.{◌≡◌, ℕ, ◌+◌, cond, List, [], ◌∷◌, Some, vec_items, Vec, refl, ap, sym, ◌∙◌}
use Rattle.std.specs.Str.{bytes_eq}
use Rattle.std.specs.List.{position, position_from}
use Rattle.std.specs.declared.alloc.Global.{Global}
use Rattle.std.proofs.lemmas.Iterator.Adapters.{position_from-zero}
use Rattle.reading.specs.Names.{found, names_of}

-- counted from k on
counted : (ns : List (Vec ℕ Global)) (w : List ℕ) (k : ℕ) → position_from (λ n. bytes_eq (vec_items n) w) k ns ≡ found (names_of ns) w k
counted [] w k = refl
counted (n ∷ ns) w k = ap (cond (bytes_eq (vec_items n) w) (Some k)) (counted ns w (k + 1))

pub found_first : (ns : List (Vec ℕ Global)) (w : List ℕ) → found (names_of ns) w 0 ≡ position (λ n. bytes_eq (vec_items n) w) ns
found_first ns w = sym (position_from-zero (λ n. bytes_eq (vec_items n) w) ns ∙ counted ns w 0)

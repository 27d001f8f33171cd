-- The signals of a derived formula are declared. Assumes nothing.
use Rattle.std.proofs.Common.{◌≡◌, ℕ, ◌+◌, ◌<◌, Bool, true, false, cond, List, [], ◌∷◌, length, take, Some, Option, refl, arith, length-take}
use Rattle.std.specs.Str.{bytes_eq}
use Rattle.std.proofs.lemmas.Bool.{lt-ltb, and_from}
use Rattle.logic.specs.Form.{Form}
use Rattle.logic.specs.Basics.{below}
use Rattle.reading.specs.Names.{found}
use Rattle.grammar.specs.Limits.{Stream}
use Rattle.grammar.specs.Grammar.{Rung, Reads, r_true, r_false, r_name, r_not, r_next, r_always, r_eventually, r_paren, r_until, r_and, r_or, r_implies, as_until, as_and, as_or, as_whole, Derives}

hit_or_on : (b : Bool) (k g m : ℕ) (o : Option ℕ) → cond b (Some k) o ≡ Some g → 0 < m → (o ≡ Some g → g < k + m) → g < k + m
hit_or_on true k g m o e p h = let z : k ≡ g = cc in omega arith
hit_or_on false k g m o e p h = h e

found_below : (ns : List (List ℕ)) (w : List ℕ) (k g : ℕ) → found ns w k ≡ Some g → g < k + length ns
found_below [] w k g e = absurd (let z : ◌≡◌ {A = ℕ} 0 1 = cc in omega arith)
found_below (n ∷ ns) w k g e =
    hit_or_on (bytes_eq n w) k g (length (n ∷ ns)) (found ns w (k + 1)) e (omega arith)
    (λ h. let l = found_below ns w (k + 1) g h in omega arith)

module _ (names : List (List ℕ)) where
  reads_below : {l : Rung} {s u : Stream} {f : Form} → Reads names l s f u → below (length names) f ≡ true
  reads_below r_true = refl
  reads_below r_false = refl
  reads_below (r_name {w = w} {g = g} e) =
      let l = found_below (take 16 names) w 0 g e in
      let m = length-take 16 names in
      lt-ltb g (length names) (omega arith)
  reads_below (r_not r) = reads_below r
  reads_below (r_next r) = reads_below r
  reads_below (r_always r) = reads_below r
  reads_below (r_eventually r) = reads_below r
  reads_below (r_paren r) = reads_below r
  reads_below (r_until r q) = and_from _ _ (reads_below r) (reads_below q)
  reads_below (r_and r q) = and_from _ _ (reads_below r) (reads_below q)
  reads_below (r_or r q) = and_from _ _ (reads_below r) (reads_below q)
  reads_below (r_implies r q) = and_from _ _ (reads_below r) (reads_below q)
  reads_below (as_until r) = reads_below r
  reads_below (as_and r) = reads_below r
  reads_below (as_or r) = reads_below r
  reads_below (as_whole r) = reads_below r

  pub derived_below : (t : List ℕ) (f : Form) → Derives names t f → below (length names) f ≡ true
  derived_below t f d = reads_below d.1

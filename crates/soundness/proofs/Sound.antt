-- On a fair walk of the machine the truth in the states is the truth on the run. Assumes nothing.
use Rattle.std.proofs.Common.{◌≡◌, ℕ, suc, ◌+◌, ◌≤◌, Bool, true, ◌&&◌, ◌||◌, List, [], ◌∷◌, ◌++◌, Decides, sym, refl, ap, ◌∙◌}
use Rattle.std.proofs.lemmas.Bool.{false≢true, and_parts, or_left, or_right, eq-eqb}
use Rattle.std.proofs.lemmas.Bool.Decides.{Decides-at, Decides-not, Decides-and, Decides-or}
use Rattle.logic.specs.Runs.{Run}
use Rattle.logic.specs.Form.{Form, yes_form, no_form, signal, not_form, next_form, always, eventually, and_form, or_form, implies, until}
use Rattle.logic.specs.Truth.{Holds}
use Rattle.logic.specs.Basics.{occurs, ops}
use Rattle.tableau.specs.Machine.{bit_on, holds, same, linked, kept}
use Rattle.soundness.proofs.Unroll.{same_true, decides_implies, until_right, always_right}

abbrev pub Each : ((ℕ → Bool) → Type 0) → List (ℕ → Bool) → Type 0
Each P [] = Unit {0}
Each P (x ∷ xs) = P x × Each P xs

pub each_left : (P : (ℕ → Bool) → Type 0) (xs ys : List (ℕ → Bool)) → Each P (xs ++ ys) → Each P xs
each_left P [] ys h = tt
each_left P (x ∷ xs) ys h = (h.0, each_left P xs ys h.1)

pub each_right : (P : (ℕ → Bool) → Type 0) (xs ys : List (ℕ → Bool)) → Each P (xs ++ ys) → Each P ys
each_right P [] ys h = h
each_right P (x ∷ xs) ys h = each_right P xs ys h.1

module _ (a : ℕ → ℕ) (w : ℕ → ℕ) (σ : Run) where
  abbrev pub Often : (ℕ → Bool) → Type 0
  Often p = (j : ℕ) → (i : ℕ) × (j ≤ i) × (p (w i) ≡ true)

  abbrev pub Shown : Form → Type 0
  Shown f = (j g : ℕ) → occurs f g ≡ true → bit_on (w j) (a g) ≡ σ j g

  abbrev pub Linked : Form → ℕ → Type 0
  Linked f k = (j : ℕ) → linked a f (w j) (w (suc j)) k ≡ true

  pub right : (f : Form) (k : ℕ) → Shown f → Linked f k → Each Often (kept a f k) → (j : ℕ) → Decides (holds a f (w j) k) (Holds f σ j)
  right yes_form k sig link fair j = (λ _. tt, λ _. refl)
  right no_form k sig link fair j = (λ e. false≢true e, λ x. absurd x)
  right (signal g) k sig link fair j = let e = sig j g (eq-eqb g g refl) in (λ h. sym e ∙ h, λ h. e ∙ h)
  right (not_form f) k sig link fair j = Decides-not (holds a f (w j) k) (right f k sig link fair j)
  right (next_form f) k sig link fair j =
      let b = bit_on (w j) k in
      let t = holds a f (w (suc j)) (k + 1) in
      let now = (and_parts (same b t) (linked a f (w j) (w (suc j)) (k + 1)) (link j)).0 in
      Decides-at b t (same_true b t now)
      (right f (k + 1) sig (λ i. (and_parts (same (bit_on (w i) k) (holds a f (w (suc i)) (k + 1))) (linked a f (w i) (w (suc i)) (k + 1)) (link i)).1) fair (suc j))
  right (always f) k sig link fair j =
      let both = λ (i : ℕ). and_parts (same (bit_on (w i) k) (holds a (always f) (w (suc i)) k)) (linked a f (w i) (w (suc i)) (k + 1)) (link i) in
      always_right (λ i. holds a f (w i) (k + 1)) (λ i. holds a (always f) (w i) k) (λ i. Holds f σ i)
      (right f (k + 1) sig (λ i. (both i).1) fair.1)
      (λ i. ap (λ (x : Bool). holds a f (w i) (k + 1) && x) (same_true _ _ (both i).0)) fair.0 j
  right (eventually f) k sig link fair j =
      let both = λ (i : ℕ). and_parts (same (bit_on (w i) k) (holds a (eventually f) (w (suc i)) k)) (linked a f (w i) (w (suc i)) (k + 1)) (link i) in
      until_right (λ _. true) (λ i. holds a f (w i) (k + 1)) (λ i. holds a (eventually f) (w i) k) (λ _. Unit {0}) (λ i. Holds f σ i)
      (λ _. (λ _. tt, λ _. refl)) (right f (k + 1) sig (λ i. (both i).1) fair.1)
      (λ i. ap (λ (x : Bool). holds a f (w i) (k + 1) || x) (same_true _ _ (both i).0)) fair.0 j
  right (and_form f g) k sig link fair j =
      let both = λ (i : ℕ). and_parts (linked a f (w i) (w (suc i)) k) (linked a g (w i) (w (suc i)) (k + ops f)) (link i) in
      Decides-and (holds a f (w j) k) (holds a g (w j) (k + ops f))
      (right f k (λ i h e. sig i h (or_left (occurs f h) (occurs g h) e)) (λ i. (both i).0) (each_left Often (kept a f k) _ fair) j)
      (right g (k + ops f) (λ i h e. sig i h (or_right (occurs f h) (occurs g h) e)) (λ i. (both i).1) (each_right Often (kept a f k) _ fair) j)
  right (or_form f g) k sig link fair j =
      let both = λ (i : ℕ). and_parts (linked a f (w i) (w (suc i)) k) (linked a g (w i) (w (suc i)) (k + ops f)) (link i) in
      Decides-or (holds a f (w j) k) (holds a g (w j) (k + ops f))
      (right f k (λ i h e. sig i h (or_left (occurs f h) (occurs g h) e)) (λ i. (both i).0) (each_left Often (kept a f k) _ fair) j)
      (right g (k + ops f) (λ i h e. sig i h (or_right (occurs f h) (occurs g h) e)) (λ i. (both i).1) (each_right Often (kept a f k) _ fair) j)
  right (implies f g) k sig link fair j =
      let both = λ (i : ℕ). and_parts (linked a f (w i) (w (suc i)) k) (linked a g (w i) (w (suc i)) (k + ops f)) (link i) in
      decides_implies (holds a f (w j) k) (holds a g (w j) (k + ops f))
      (right f k (λ i h e. sig i h (or_left (occurs f h) (occurs g h) e)) (λ i. (both i).0) (each_left Often (kept a f k) _ fair) j)
      (right g (k + ops f) (λ i h e. sig i h (or_right (occurs f h) (occurs g h) e)) (λ i. (both i).1) (each_right Often (kept a f k) _ fair) j)
  right (until f g) k sig link fair j =
      let m = k + ops f in
      let both = λ (i : ℕ). and_parts (linked a f (w i) (w (suc i)) k) (same (bit_on (w i) m) (holds a (until f g) (w (suc i)) k) && linked a g (w i) (w (suc i)) (m + 1)) (link i) in
      let rest = λ (i : ℕ). and_parts (same (bit_on (w i) m) (holds a (until f g) (w (suc i)) k)) (linked a g (w i) (w (suc i)) (m + 1)) (both i).1 in
      let tail = each_right Often (kept a f k) _ fair in
      until_right (λ i. holds a f (w i) k) (λ i. holds a g (w i) (m + 1)) (λ i. holds a (until f g) (w i) k) (λ i. Holds f σ i) (λ i. Holds g σ i)
      (right f k (λ i h e. sig i h (or_left (occurs f h) (occurs g h) e)) (λ i. (both i).0) (each_left Often (kept a f k) _ fair))
      (right g (m + 1) (λ i h e. sig i h (or_right (occurs f h) (occurs g h) e)) (λ i. (rest i).1) tail.1)
      (λ i. ap (λ (x : Bool). holds a g (w i) (m + 1) || (holds a f (w i) k && x)) (same_true _ _ (rest i).0)) tail.0 j

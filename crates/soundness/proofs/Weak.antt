-- Weak truth and truth. Assumes nothing.
use Rattle.std.proofs.Common.{ℕ, suc, ◌<◌, ◌≤◌, inl, inr, arith}
use Rattle.std.proofs.lemmas.Bool.{cases_Bool, cases_lt, both_ways}
use Rattle.logic.specs.Runs.{Run}
use Rattle.logic.specs.Form.{Form, yes_form, no_form, signal, not_form, next_form, always, eventually, and_form, or_form, implies, until}
use Rattle.logic.specs.Truth.{Holds}
use Rattle.logic.specs.Basics.{all}
use Rattle.soundness.specs.Weak.{Weak, WeakRight, NoneWeak}
use Rattle.logic.specs.Laws.{Likely}
use Rattle.soundness.proofs.Likely.{sure, then, from_one_on}
use Rattle.soundness.proofs.Found.{meets_from}
use Rattle.soundness.proofs.Decide.{decide_right}

module _ (σ : Run) where
  settled : (f : Form) (j : ℕ) → Likely (Weak f σ j) → Weak f σ j
  settled yes_form j l = tt
  settled no_form j l = l (λ x. x)
  settled (signal g) j l = elim (cases_Bool (σ j g)) [ inl e ↦ e | inr e ↦ absurd (l (λ h. both_ways (σ j g) e h)) ]
  settled (not_form f) j l = λ w. l (λ n. n w)
  settled (next_form f) j l = settled f (suc j) l
  settled (always f) j l = λ k h. settled f k (then l (λ a. sure (a k h)))
  settled (eventually f) j l = then l (λ x. x)
  settled (and_form f g) j l = (settled f j (then l (λ x. sure x.0)), settled g j (then l (λ x. sure x.1)))
  settled (or_form f g) j l = then l (λ x. x)
  settled (implies f g) j l = λ w. settled g j (then l (λ x. sure (x w)))
  settled (until f g) j l = then l (λ x. x)

  -- at every step of a finite stretch
  between : (P : ℕ → Type 0) (j k : ℕ) → ((i : ℕ) → j ≤ i → i < k → Likely (P i)) → Likely ((i : ℕ) → j ≤ i → i < k → P i)
  between P j k each =
      then (from_one_on (λ i _. j ≤ i → P i) (λ i x y l p. p) k
      (λ i h. elim (cases_lt i j) [
        | inl low ↦ sure (0, (λ l. absurd (omega arith)))
        | inr high ↦ then (each i high h) (λ p. sure (0, (λ _. p)))
      ]))
      (λ r. sure (λ i l h. r.1 i h l))

  same : (f : Form) (j : ℕ) → (Holds f σ j → Weak f σ j) × (Weak f σ j → Likely (Holds f σ j))
  same yes_form j = ((λ h. tt), (λ w. sure tt))
  same no_form j = ((λ h. h), (λ w. absurd w))
  same (signal g) j = ((λ h. h), (λ w. sure w))
  same (not_form f) j = ((λ h w. (same f j).1 w h), (λ n. sure (λ h. n ((same f j).0 h))))
  same (next_form f) j = same f (suc j)
  same (always f) j = (
    (λ h k l. settled f k (λ deny. h (k, l, (λ x. deny ((same f k).0 x)), (λ i low high. tt)))),
    (λ w. sure (λ u. (same f u.0).1 (w u.0 u.1) u.2)),
  )
  same (eventually f) j = (
    (λ h. sure (h.0, h.1, (same f h.0).0 h.2)),
    (λ w. then w (λ r. then ((same f r.0).1 r.2) (λ x. sure (r.0, r.1, x, (λ i low high. tt))))),
  )
  same (and_form f g) j = (
    (λ h. ((same f j).0 h.0, (same g j).0 h.1)),
    (λ w. then ((same f j).1 w.0) (λ x. then ((same g j).1 w.1) (λ y. sure (x, y)))),
  )
  same (or_form f g) j = (
    elim [ inl h ↦ sure (inl ((same f j).0 h)) | inr h ↦ sure (inr ((same g j).0 h)) ],
    (λ w. then w (elim [ inl x ↦ then ((same f j).1 x) (λ y. sure (inl y)) | inr x ↦ then ((same g j).1 x) (λ y. sure (inr y)) ])),
  )
  same (implies f g) j = (
    (λ h w. settled g j (then ((same f j).1 w) (λ x. sure ((same g j).0 (h x))))),
    (λ w deny. deny (λ x. absurd ((same g j).1 (w ((same f j).0 x)) (λ y. deny (λ _. y))))),
  )
  same (until f g) j = (
    (λ h. sure (h.0, h.1, (same g h.0).0 h.2, (λ i low high. (same f i).0 (h.3 i low high)))),
    (λ w. then w
        (λ r. then ((same g r.0).1 r.2)
        (λ x. then (between (λ i. Holds f σ i) j r.0 (λ i low high. (same f i).1 (r.3 i low high))) (λ y. sure (r.0, r.1, x, y))))),
  )

pub weak_right : WeakRight
weak_right f σ j = same σ f j

pub none_weak : NoneWeak
none_weak rs m small law fit none σ run weak = (same σ (all rs) 0).1 weak (λ h. (decide_right rs m small law fit).0 none σ run (meets_from σ rs h))

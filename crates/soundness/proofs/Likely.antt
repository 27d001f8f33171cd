-- What cannot be denied. Assumes nothing.
use Rattle.std.proofs.Common.{◌≡◌, ℕ, zero, suc, ◌+◌, ◌<◌, ◌≤◌, Bool, true, false, cond, eqb, ◌⊎◌, Decides, sym, refl, subst, inl, inr, arith}
use Rattle.std.proofs.lemmas.Bool.{false≢true, cases_eq, eq-eqb, ne_eqb, cond-true, cond-false}
use Rattle.logic.specs.Laws.{Likely}

pub sure : {A : Type 0} → A → Likely A
sure a deny = deny a

pub then : {A B : Type 0} → Likely A → (A → Likely B) → Likely B
then m k deny = m (λ a. k a deny)

pub known : (P : Type 0) → Likely (P ⊎ (P → ⊥))
known P deny = deny (inr (λ p. deny (inl p)))

pub tested : (P : Type 0) → Likely ((b : Bool) × Decides b P)
tested P deny = deny (false, ((λ e. absurd (false≢true e)), (λ p. absurd (deny (true, ((λ _. p), (λ _. refl)))))))

-- finitely many, each from some number on, are all so from one number on
pub from_one_on : (P : ℕ → ℕ → Type 0) → ((s i j : ℕ) → i ≤ j → P s i → P s j) → (n : ℕ) → ((s : ℕ) → s < n → Likely ((j : ℕ) × P s j))
    → Likely ((j : ℕ) × ((s : ℕ) → s < n → P s j))
from_one_on P on zero each = sure (0, λ s h. absurd (omega arith))
from_one_on P on (suc n) each =
    then (from_one_on P on n (λ s h. each s (omega arith)))
    (λ r. then (each n (omega arith))
    (λ q. sure (
      r.0 + q.0,
      (λ s h. elim (cases_eq s n) [
        | inl e ↦ subst (λ (x : ℕ). P x (r.0 + q.0)) (sym e) (on n q.0 (r.0 + q.0) (omega arith) q.1)
        | inr apart ↦ on s r.0 (r.0 + q.0) (omega arith) (r.1 s (omega arith))
      ]),
    )))

-- a row of the first n
pub row_of : (R : ℕ → ℕ → Type 0) → ((j : ℕ) → Likely ((s : ℕ) × R j s)) → (n : ℕ) → Likely ((row : ℕ → ℕ) × ((j : ℕ) → j < n → R j (row j)))
row_of R each zero = sure ((λ _. 0), λ j h. absurd (omega arith))
row_of R each (suc n) =
    then (row_of R each n)
    (λ r. then (each n)
    (λ q. sure (
      (λ j. cond (eqb j n) q.0 (r.0 j)),
      (λ j h. elim (cases_eq j n) [
        | inl e ↦
            let at : cond (eqb j n) q.0 (r.0 j) ≡ q.0 = cond-true (eqb j n) q.0 (r.0 j) (eq-eqb j n e) in
            subst (R j) (sym at) (subst (λ (x : ℕ). R x q.0) (sym e) q.1)
        | inr apart ↦
            let at : cond (eqb j n) q.0 (r.0 j) ≡ r.0 j = cond-false (eqb j n) q.0 (r.0 j) (ne_eqb j n apart) in
            subst (R j) (sym at) (r.1 j (omega arith))
      ]),
    )))

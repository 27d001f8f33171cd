-- The runs of a probe. Assumes nothing.
use Rattle.std.proofs.Common.{◌≡◌, ℕ, zero, suc, ◌+◌, ◌<◌, ◌≤◌, min, Bool, true, false, cond, eqb, ltb, leb, sym, refl, ap, ◌∙◌, subst, inl, inr, arith}
use Rattle.std.proofs.lemmas.Bool.{both_ways, and_parts, and_from, cases_Bool, cases_eq, eqb-true, eq-eqb, ne_eqb, lt-ltb, leb-true, cond-true, cond-false, cond_both}
use Rattle.logic.proofs.Words.{mark_word_at}
use Rattle.logic.specs.Runs.{Run}
use Rattle.logic.specs.Marks.{mark, all_either, Obeys}
use Rattle.plant.specs.Meaning.{Meaning}
use Rattle.plant.specs.Walks.{Walk, Runs}
use Rattle.plant.specs.Unfit.{unfit}
use Rattle.plant.specs.Path.{value_mark, only, path, path_fits, probe}
use Rattle.plant.specs.PathLawful.{value_small}
use Rattle.plant.specs.declared.probe.Value.{Value}
use Rattle.plant.specs.declared.probe.Value.TheVariants.{On, Off}
use Rattle.soundness.specs.Answers.{is_on}
use Rattle.soundness.proofs.Either.{obeys_either}

marks_right : (v : Value) (g h : ℕ) → h < 16 → mark (only g v) h ≡ cond (eqb h g) (value_mark v) 3
marks_right v g h k = mark_word_at (λ q. cond (eqb q g) (value_mark v) 3) (λ q. cond_both (eqb q g) (value_mark v) 3 (λ m. m < 4) (λ _. value_small v) (λ _. omega arith)) 16 h k

said : (b : Bool) (v : Value) → (value_mark v ≡ 1 → b ≡ true) × (value_mark v ≡ 2 → b ≡ false) → b ≡ is_on v
said b On h = h.0 refl
said b Off h = h.1 refl

say : (b : Bool) (v : Value) → b ≡ is_on v → (value_mark v ≡ 1 → b ≡ true) × (value_mark v ≡ 2 → b ≡ false)
say b On e = ((λ _. e), (λ h. absurd (omega arith)))
say b Off e = ((λ h. absurd (omega arith)), (λ _. e))

module _ (i g : ℕ) (v : Value) (l : g < 16) (σ : Run) where
  obeys_word : σ i g ≡ is_on v → Obeys (σ i) (only g v)
  obeys_word e h k = elim (cases_eq h g) [
    | inl s ↦
        let m : mark (only g v) h ≡ value_mark v = marks_right v g h k ∙ cond-true (eqb h g) (value_mark v) 3 (eq-eqb h g s) in
        let r = say (σ i h) v (ap (σ i) s ∙ e) in
        ((λ x. r.0 (sym m ∙ x)), (λ x. r.1 (sym m ∙ x)))
    | inr apart ↦
        let m : mark (only g v) h ≡ 3 = marks_right v g h k ∙ cond-false (eqb h g) (value_mark v) 3 (ne_eqb h g apart) in
        ((λ x. absurd (omega arith)), (λ x. absurd (omega arith)))
  ]

  word_obeyed : Obeys (σ i) (only g v) → σ i g ≡ is_on v
  word_obeyed o =
      let m : mark (only g v) g ≡ value_mark v = marks_right v g g l ∙ cond-true (eqb g g) (value_mark v) 3 (eq-eqb g g refl) in
      said (σ i g) v ((λ x. (o g l).0 (m ∙ x)), (λ x. (o g l).1 (m ∙ x)))

-- ---- the one walk of the path
module _ (i g : ℕ) (v : Value) (l : g < 16) (σ : Run) where
  along : ℕ → ℕ
  along j = min j (i + 1)

  along_steps : (j : ℕ) → (path i g v).step (along j) (along (suc j)) ≡ true
  unfolding along
  along_steps j = and_from (ltb (min j (i + 1)) (i + 2)) _ (lt-ltb (min j (i + 1)) (i + 2) (omega arith)) (eq-eqb (min (suc j) (i + 1)) (min (min j (i + 1) + 1) (i + 1)) (omega arith))

  along_follows : σ i g ≡ is_on v → (j : ℕ) → Obeys (σ j) ((path i g v).marks (along j))
  unfolding along
  along_follows e j = elim (cases_eq j i) [
    | inl s ↦
        let at : min j (i + 1) ≡ i = omega arith in
        let w : (path i g v).marks (along j) ≡ only g v = cond-true (eqb (min j (i + 1)) i) (only g v) all_either (eq-eqb (min j (i + 1)) i at) in
        subst (λ (x : ℕ). Obeys (σ j) x) (sym w) (subst (λ (x : ℕ). Obeys (σ x) (only g v)) (sym s) (obeys_word i g v l σ e))
    | inr apart ↦
        let off : min j (i + 1) ≡ i → ⊥ = λ z. omega arith in
        let w : (path i g v).marks (along j) ≡ all_either = cond-false (eqb (min j (i + 1)) i) (only g v) all_either (ne_eqb (min j (i + 1)) i off) in
        subst (λ (x : ℕ). Obeys (σ j) x) (sym w) (obeys_either (σ j))
  ]

  path_run : σ i g ≡ is_on v → Runs (path i g v) σ
  unfolding along
  path_run e = record {
    walk = along;
    walks = record { begins = eq-eqb (min 0 (i + 1)) 0 (omega arith); steps = along_steps };
    fair = λ k h. absurd (omega arith);
    follows = along_follows e;
  }

  unique : (w : ℕ → ℕ) → Walk (path i g v) w → (j : ℕ) → w j ≡ min j (i + 1)
  unique w walks zero = let z : w 0 ≡ 0 = eqb-true (w 0) 0 walks.begins in omega arith
  unique w walks (suc j) =
      let before = unique w walks j in
      let z : w (suc j) ≡ min (w j + 1) (i + 1) = eqb-true (w (suc j)) (min (w j + 1) (i + 1)) (and_parts (ltb (w j) (i + 2)) _ (walks.steps j)).1 in
      omega arith

  path_value : Runs (path i g v) σ → σ i g ≡ is_on v
  path_value r =
      let w = r.walk in
      let at : w i ≡ i = let z = unique w r.walks i in omega arith in
      word_obeyed i g v l σ (subst (λ (x : ℕ). Obeys (σ i) x) (cond-true (eqb (w i) i) (only g v) all_either (eq-eqb (w i) i at)) (r.follows i))

fit_fits : (i g : ℕ) (v : Value) → (probe i g v).fit ≡ true → path_fits i g ≡ true
fit_fits i g v e = elim (cases_Bool (path_fits i g)) [
  | inl h ↦ h
  | inr h ↦ absurd (both_ways (probe i g v).fit (ap (λ (m : Meaning). m.fit) (cond-false (path_fits i g) (path i g v) unfit h)) e)
]

-- the runs of a fit probe are those whose signal has that value at that step
pub probe_runs : (i g : ℕ) (v : Value) → (probe i g v).fit ≡ true → (σ : Run) → (Runs (probe i g v) σ → σ i g ≡ is_on v) × (σ i g ≡ is_on v → Runs (probe i g v) σ)
probe_runs i g v e σ =
    let f = fit_fits i g v e in
    let l : g ≤ 15 = leb-true g 15 (and_parts (leb g 15) (leb i 1048574) f).0 in
    let same : probe i g v ≡ path i g v = cond-true (path_fits i g) (path i g v) unfit f in
    let P : Meaning → Type 0 = λ m. Runs m σ in (
      (λ r. path_value i g v (omega arith) σ (subst P same r)),
      (λ e. subst P (sym same) (path_run i g v (omega arith) σ e)),
    )

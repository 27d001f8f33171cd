-- Mark words: their marks one by one, and what two words have in common. Assumes nothing.
use Rattle.std.proofs.Common.{◌≡◌, ℕ, zero, suc, ◌+◌, ◌-◌, ◌*◌, ◌/◌, ◌%◌, ◌^◌, ◌<◌, ◌≤◌, Bool, true, false, cond, not, ◌&&◌, ◌||◌, eqb, ◌⊎◌, Decides, sym, refl, ap, ◌∙◌, subst, ap₂, inl, inr, arith, pow-add}
use lib.Bits.{bit_and, bit_or}
use lib.Pow.{high, low, field, mod-mod-pow, mod-pow-add}
use Rattle.std.proofs.lemmas.Nat.{mul-add-lt, and_shr, and_mod, or_shr, or_mod, shr-shr, and_le_l, and_le_r}
use Rattle.std.proofs.lemmas.Bool.{true≢false, both_ways, cases_eq, cases_Bool, and_parts, or_cases, or_left, or_right, or_from, and_from, eqb-true, eqb-false, eq-eqb, ne_eqb, not-true, not_from_false, cond-true, cond-false, cond_both}
use Rattle.std.proofs.lemmas.Bool.Decides.{Decides-below_and, Decides-eqb}
use Rattle.logic.specs.Runs.{Setting}
use Rattle.logic.specs.Marks.{mark, all_either, Whole, Obeys, word, clash, agree_below, agree, one_says, merged}

-- ---- one mark
pub by_four : (P : ℕ → Type 0) → P 0 → P 1 → P 2 → P 3 → (x : ℕ) → x < 4 → P x
by_four P a b c d zero h = a
by_four P a b c d (suc zero) h = b
by_four P a b c d (suc (suc zero)) h = c
by_four P a b c d (suc (suc (suc zero))) h = d
by_four P a b c d (suc (suc (suc (suc x)))) h = absurd (omega arith)

pub mark_small : (w g : ℕ) → mark w g < 4
mark_small w g = omega arith

pub mark_and : (v w g : ℕ) → mark (bit_and v w) g ≡ bit_and (mark v g) (mark w g)
mark_and v w g = ap (λ (x : ℕ). x % 4) (and_shr v w (2 * g)) ∙ and_mod (v / 2 ^ (2 * g)) (w / 2 ^ (2 * g)) 2

pub mark_or : (v w g : ℕ) → mark (bit_or v w) g ≡ bit_or (mark v g) (mark w g)
mark_or v w g = ap (λ (x : ℕ). x % 4) (or_shr v w (2 * g)) ∙ or_mod (v / 2 ^ (2 * g)) (w / 2 ^ (2 * g)) 2

-- ---- all the marks of a word
-- c digits from k on, all of them below n
pub low_field : (x y n k c : ℕ) → x % 2 ^ n ≡ y → c + k ≤ n → x / 2 ^ k % 2 ^ c ≡ y / 2 ^ k % 2 ^ c
low_field x y n k c e h =
    let d = n - (c + k) in
    let sum : d + (c + k) ≡ n = omega arith in
    let cut : x % 2 ^ (c + k) ≡ y % 2 ^ (c + k) =
    sym (mod-mod-pow x d (c + k)) ∙ ap (λ (m : ℕ). x % 2 ^ m % 2 ^ (c + k)) sum ∙ ap (λ (m : ℕ). m % 2 ^ (c + k)) e in
    sym (field x c k) ∙ ap (λ (m : ℕ). m / 2 ^ k) cut ∙ field y c k

-- one digit of 2 ^ c in front
pub front_below : (v y n c : ℕ) → v < 2 ^ c → y < 2 ^ n → v * 2 ^ n + y < 2 ^ (n + c)
front_below v y n c hv hy = subst (λ (m : ℕ). v * 2 ^ n + y < m) (sym (pow-add 2 n c)) (mul-add-lt v (2 ^ n) y (2 ^ c) hv hy)

module _ (v : ℕ → ℕ) (small : (g : ℕ) → v g < 4) where
  word_below : (n : ℕ) → word v n < 2 ^ (2 * n)
  unfolding word
  word_below zero = omega arith
  word_below (suc n) =
      let e : 2 * n + 2 ≡ 2 * suc n = omega arith in
      subst (λ (m : ℕ). v n * 2 ^ (2 * n) + word v n < 2 ^ m) e (front_below (v n) (word v n) (2 * n) 2 (small n) (word_below n))

  -- a word of marks has these marks
  pub mark_word_at : (n g : ℕ) → g < n → mark (word v n) g ≡ v g
  unfolding word
  mark_word_at zero g h = absurd (omega arith)
  mark_word_at (suc n) g h = elim (cases_eq g n) [
    | inl e ↦
        let less : v n < 4 = small n in
        let own : v n % 4 ≡ v n = omega arith in
        ap (mark (v n * 2 ^ (2 * n) + word v n)) e ∙ ap (λ (m : ℕ). m % 4) (high (v n) (2 * n) (word_below n)) ∙ own ∙ ap v (sym e)
    | inr apart ↦
        low_field (v n * 2 ^ (2 * n) + word v n) (word v n) (2 * n) (2 * g) 2 (low (v n) (2 * n) (word_below n)) (omega arith)
        ∙ mark_word_at n g (omega arith)
  ]

-- words of the same marks are the same
pub word_same : (u v : ℕ → ℕ) (n : ℕ) → ((g : ℕ) → g < n → u g ≡ v g) → word u n ≡ word v n
unfolding word
word_same u v zero same = refl
word_same u v (suc n) same =
    ap₂ (λ (x y : ℕ). x * 2 ^ (2 * n) + y) (same n (omega arith)) (word_same u v n (λ g h. same g (omega arith)))

-- a number is the word of its marks
pub word_of_marks : (x n : ℕ) → word (mark x) n ≡ x % 2 ^ (2 * n)
unfolding word
word_of_marks x zero = omega arith
word_of_marks x (suc n) =
    let e : 2 + 2 * n ≡ 2 * suc n = omega arith in
    ap (λ (y : ℕ). mark x n * 2 ^ (2 * n) + y) (word_of_marks x n) ∙ sym (mod-pow-add x 2 (2 * n)) ∙ ap (λ (m : ℕ). x % 2 ^ m) e

pub word_back : (x : ℕ) → x < 2 ^ 32 → word (mark x) 16 ≡ x
word_back x h = word_of_marks x 16 ∙ omega arith

-- numbers of 32 bits with the same marks are the same
pub same_by_marks : (x y : ℕ) → x < 2 ^ 32 → y < 2 ^ 32 → ((g : ℕ) → g < 16 → mark x g ≡ mark y g) → x ≡ y
same_by_marks x y hx hy same = sym (word_back x hx) ∙ word_same (mark x) (mark y) 16 same ∙ word_back y hy

-- ---- no mark is zero
-- each of the first n marks of a word is not zero, as a test
abbrev pub marked : ℕ → ℕ → Bool
marked w zero = true
marked w (suc g) = not (eqb (mark w g) 0) && marked w g

pub decides_marked : (w n : ℕ) → Decides (marked w n) ((g : ℕ) → g < n → mark w g ≡ 0 → ⊥)
decides_marked w n =
    Decides-below_and (λ g. not (eqb (mark w g) 0)) (λ g. mark w g ≡ 0 → ⊥) (marked w)
    (λ g. ((λ e. eqb-false (mark w g) 0 (not-true _ e)), (λ h. not_from_false _ (ne_eqb (mark w g) 0 h)))) refl (λ _. refl) n

pub all_either_whole : Whole all_either
all_either_whole = (decides_marked all_either 16).0 refl

-- the low bit of every mark
abbrev low_bits : ℕ
low_bits = 1431655765

-- each of the first n marks of the word is 1, as a test
abbrev ones_below : ℕ → ℕ → Bool
ones_below w zero = true
ones_below w (suc g) = eqb (mark w g) 1 && ones_below w g

low_bit : (g : ℕ) → g < 16 → mark low_bits g ≡ 1
low_bit = (Decides-below_and (λ g. eqb (mark low_bits g) 1) (λ g. mark low_bits g ≡ 1) (ones_below low_bits) (λ g. Decides-eqb (mark low_bits g) 1) refl (λ _. refl) 16).0 refl

-- of three bits, whether one of the lower two is set
abbrev EitherBit : ℕ → Type 0
EitherBit z = bit_and (bit_or (z % 4) (z / 2)) 1 ≡ cond (eqb (z % 4) 0) 0 1

either_bit : (z : ℕ) → z < 8 → EitherBit z
either_bit zero h = refl
either_bit (suc zero) h = refl
either_bit (suc (suc zero)) h = refl
either_bit (suc (suc (suc zero))) h = refl
either_bit (suc (suc (suc (suc zero)))) h = refl
either_bit (suc (suc (suc (suc (suc zero))))) h = refl
either_bit (suc (suc (suc (suc (suc (suc zero)))))) h = refl
either_bit (suc (suc (suc (suc (suc (suc (suc zero))))))) h = refl
either_bit (suc (suc (suc (suc (suc (suc (suc (suc z)))))))) h = absurd (omega arith)

-- the bits that say of each mark whether it is zero
abbrev folded : ℕ → ℕ
folded w = bit_and (bit_or w (w / 2 ^ 1)) low_bits

mark_half : (w g : ℕ) → mark (w / 2 ^ 1) g ≡ w / 2 ^ (2 * g) / 2 % 4
mark_half w g =
    let e : 1 + 2 * g ≡ 2 * g + 1 = omega arith in
    ap (λ (x : ℕ). x % 4) (shr-shr w 1 (2 * g) ∙ ap (λ (m : ℕ). w / 2 ^ m) e ∙ sym (shr-shr w (2 * g) 1))

mark_folded : (w g : ℕ) → g < 16 → mark (folded w) g ≡ cond (eqb (mark w g) 0) 0 1
mark_folded w g h =
    let y = w / 2 ^ (2 * g) in
    let z = y % 8 in
    let lower : y % 4 ≡ z % 4 = omega arith in
    let upper : y / 2 % 4 ≡ z / 2 = omega arith in
    mark_and (bit_or w (w / 2 ^ 1)) low_bits g
    ∙ ap₂ bit_and (mark_or w (w / 2 ^ 1) g ∙ ap (bit_or (y % 4)) (mark_half w g)) (low_bit g h)
    ∙ ap₂ (λ (p q : ℕ). bit_and (bit_or p q) 1) lower upper
    ∙ either_bit z (omega arith)
    ∙ ap (λ (p : ℕ). cond (eqb p 0) 0 1) (sym lower)

pub decides_whole : (w : ℕ) → Decides (eqb (folded w) low_bits) (Whole w)
decides_whole w = (
  (λ e g h z.
      let one : mark (folded w) g ≡ 1 = ap (λ (x : ℕ). mark x g) (eqb-true (folded w) low_bits e) ∙ low_bit g h in
      let none : mark (folded w) g ≡ 0 = mark_folded w g h ∙ cond-true (eqb (mark w g) 0) 0 1 (eq-eqb (mark w g) 0 z) in
      omega arith),
  (λ whole.
      let below : folded w ≤ low_bits = and_le_r (bit_or w (w / 2 ^ 1)) low_bits in
      eq-eqb (folded w) low_bits
      (same_by_marks (folded w) low_bits (omega arith) (omega arith)
      (λ g h. mark_folded w g h ∙ cond-false (eqb (mark w g) 0) 0 1 (ne_eqb (mark w g) 0 (whole g h)) ∙ sym (low_bit g h)))),
)

-- ---- two words
pub decides_agree : (v w : ℕ) → Decides (agree v w) ((g : ℕ) → g < 16 → clash (mark v g) (mark w g) ≡ false)
unfolding agree
decides_agree v w =
    Decides-below_and (λ g. not (clash (mark v g) (mark w g))) (λ g. clash (mark v g) (mark w g) ≡ false) (agree_below v w)
    (λ g. (not-true (clash (mark v g) (mark w g)), not_from_false (clash (mark v g) (mark w g)))) refl (λ _. refl) 16

abbrev AndClash : ℕ → ℕ → Type 0
AndClash x y = (x ≡ 0 → ⊥) → (y ≡ 0 → ⊥) → clash x y ≡ eqb (bit_and x y) 0

and_clash : (x : ℕ) → x < 4 → (y : ℕ) → y < 4 → AndClash x y
and_clash =
    by_four (λ x. (y : ℕ) → y < 4 → AndClash x y)
    (λ y h p q. absurd (p refl))
    (by_four (λ y. AndClash 1 y) (λ p q. absurd (q refl)) (λ p q. refl) (λ p q. refl) (λ p q. refl))
    (by_four (λ y. AndClash 2 y) (λ p q. absurd (q refl)) (λ p q. refl) (λ p q. refl) (λ p q. refl))
    (by_four (λ y. AndClash 3 y) (λ p q. absurd (q refl)) (λ p q. refl) (λ p q. refl) (λ p q. refl))

-- of two words without a zero mark: they agree exactly when their bits in common have none
pub decides_agree_whole : (v w : ℕ) → Whole v → Whole w → Decides (agree v w) (Whole (bit_and v w))
decides_agree_whole v w hv hw = (
  (λ e g l z.
      let c = and_clash (mark v g) (mark_small v g) (mark w g) (mark_small w g) (hv g l) (hw g l) in
      both_ways (clash (mark v g) (mark w g)) ((decides_agree v w).0 e g l) (c ∙ eq-eqb _ 0 (sym (mark_and v w g) ∙ z))),
  (λ h. (decides_agree v w).1
      (λ g l. and_clash (mark v g) (mark_small v g) (mark w g) (mark_small w g) (hv g l) (hw g l) ∙ ne_eqb _ 0 (λ z. h g l (mark_and v w g ∙ z)))),
)

-- ---- the merger
one_says_small : (x y : ℕ) → one_says x y < 4
one_says_small x y =
    cond_both (eqb x 1 || eqb y 1) 1 (cond (eqb x 2 || eqb y 2) 2 3) (λ m. m < 4) (λ _. omega arith)
    (λ _. cond_both (eqb x 2 || eqb y 2) 2 3 (λ m. m < 4) (λ _. omega arith) (λ _. omega arith))

one_says_some : (x y : ℕ) → one_says x y ≡ 0 → ⊥
one_says_some x y =
    cond_both (eqb x 1 || eqb y 1) 1 (cond (eqb x 2 || eqb y 2) 2 3) (λ m. m ≡ 0 → ⊥) (λ _ z. omega arith)
    (λ _. cond_both (eqb x 2 || eqb y 2) 2 3 (λ m. m ≡ 0 → ⊥) (λ _ z. omega arith) (λ _ z. omega arith))

abbrev says : ℕ → ℕ → ℕ → ℕ
says v w g = one_says (mark v g) (mark w g)

-- each mark of the merger of two words that agree
pub mark_merged : (v w : ℕ) → agree v w ≡ true → (g : ℕ) → g < 16 → mark (merged v w) g ≡ one_says (mark v g) (mark w g)
unfolding merged
mark_merged v w e g l =
    ap (λ (x : ℕ). mark x g) (cond-true (agree v w) (word (says v w) 16) all_either e)
    ∙ mark_word_at (says v w) (λ h. one_says_small (mark v h) (mark w h)) 16 g l

pub merged_whole : (v w : ℕ) → Whole (merged v w)
unfolding merged
merged_whole v w =
    cond_both (agree v w) (word (says v w) 16) all_either Whole
    (λ _ g l z. one_says_some (mark v g) (mark w g) (sym (mark_word_at (says v w) (λ h. one_says_small (mark v h) (mark w h)) 16 g l) ∙ z))
    (λ _. all_either_whole)

pub merged_apart : (v w : ℕ) → agree v w ≡ false → merged v w ≡ all_either
unfolding merged
merged_apart v w e = cond-false (agree v w) (word (says v w) 16) all_either e

abbrev AndSays : ℕ → ℕ → Type 0
AndSays x y = (x ≡ 0 → ⊥) → (y ≡ 0 → ⊥) → clash x y ≡ false → bit_and x y ≡ one_says x y

and_says : (x : ℕ) → x < 4 → (y : ℕ) → y < 4 → AndSays x y
and_says =
    by_four (λ x. (y : ℕ) → y < 4 → AndSays x y)
    (λ y h p q e. absurd (p refl))
    (by_four (λ y. AndSays 1 y) (λ p q e. absurd (q refl)) (λ p q e. refl) (λ p q e. absurd (true≢false e)) (λ p q e. refl))
    (by_four (λ y. AndSays 2 y) (λ p q e. absurd (q refl)) (λ p q e. absurd (true≢false e)) (λ p q e. refl) (λ p q e. refl))
    (by_four (λ y. AndSays 3 y) (λ p q e. absurd (q refl)) (λ p q e. refl) (λ p q e. refl) (λ p q e. refl))

-- the merger of two words that agree, neither with a zero mark: the bits that they have in common
pub merged_and : (v w : ℕ) → v < 2 ^ 32 → Whole v → Whole w → agree v w ≡ true → merged v w ≡ bit_and v w
unfolding merged
merged_and v w h hv hw e =
    let below : bit_and v w ≤ v = and_le_l v w in
    cond-true (agree v w) (word (says v w) 16) all_either e
    ∙ word_same (says v w) (mark (bit_and v w)) 16
    (λ g l. sym (mark_and v w g ∙ and_says (mark v g) (mark_small v g) (mark w g) (mark_small w g) (hv g l) (hw g l) ((decides_agree v w).0 e g l)))
    ∙ word_back (bit_and v w) (omega arith)

-- ---- settings that obey two words
said_one : (x y : ℕ) → one_says x y ≡ 1 → (x ≡ 1) ⊎ (y ≡ 1)
said_one x y =
    cond_both (eqb x 1 || eqb y 1) 1 (cond (eqb x 2 || eqb y 2) 2 3) (λ m. m ≡ 1 → (x ≡ 1) ⊎ (y ≡ 1))
    (λ e _. elim (or_cases (eqb x 1) (eqb y 1) e) [ inl h ↦ inl (eqb-true x 1 h) | inr h ↦ inr (eqb-true y 1 h) ])
    (λ _. cond_both (eqb x 2 || eqb y 2) 2 3 (λ m. m ≡ 1 → (x ≡ 1) ⊎ (y ≡ 1)) (λ _ z. absurd (omega arith)) (λ _ z. absurd (omega arith)))

said_two : (x y : ℕ) → one_says x y ≡ 2 → (x ≡ 2) ⊎ (y ≡ 2)
said_two x y =
    cond_both (eqb x 1 || eqb y 1) 1 (cond (eqb x 2 || eqb y 2) 2 3) (λ m. m ≡ 2 → (x ≡ 2) ⊎ (y ≡ 2))
    (λ _ z. absurd (omega arith))
    (λ _. cond_both (eqb x 2 || eqb y 2) 2 3 (λ m. m ≡ 2 → (x ≡ 2) ⊎ (y ≡ 2))
    (λ e _. elim (or_cases (eqb x 2) (eqb y 2) e) [ inl h ↦ inl (eqb-true x 2 h) | inr h ↦ inr (eqb-true y 2 h) ])
    (λ _ z. absurd (omega arith)))

one_says_on : (x y : ℕ) → (x ≡ 1) ⊎ (y ≡ 1) → one_says x y ≡ 1
one_says_on x y (inl e) = cond-true (eqb x 1 || eqb y 1) 1 _ (or_left (eqb x 1) (eqb y 1) (eq-eqb x 1 e))
one_says_on x y (inr e) = cond-true (eqb x 1 || eqb y 1) 1 _ (or_right (eqb x 1) (eqb y 1) (eq-eqb y 1 e))

clash_off_on : (x y : ℕ) → x ≡ 2 → y ≡ 1 → clash x y ≡ true
clash_off_on x y p q = or_right (eqb x 1 && eqb y 2) (eqb x 2 && eqb y 1) (and_from (eqb x 2) (eqb y 1) (eq-eqb x 2 p) (eq-eqb y 1 q))

clash_on_off : (x y : ℕ) → x ≡ 1 → y ≡ 2 → clash x y ≡ true
clash_on_off x y p q = or_left (eqb x 1 && eqb y 2) (eqb x 2 && eqb y 1) (and_from (eqb x 1) (eqb y 2) (eq-eqb x 1 p) (eq-eqb y 2 q))

one_says_off : (x y : ℕ) → clash x y ≡ false → (x ≡ 2) ⊎ (y ≡ 2) → one_says x y ≡ 2
one_says_off x y apart (inl e) =
    cond-false (eqb x 1 || eqb y 1) 1 _ (or_from (eqb x 1) (eqb y 1) (ne_eqb x 1 (λ z. omega arith)) (ne_eqb y 1 (λ z. both_ways (clash x y) apart (clash_off_on x y e z))))
    ∙ cond-true (eqb x 2 || eqb y 2) 2 3 (or_left (eqb x 2) (eqb y 2) (eq-eqb x 2 e))
one_says_off x y apart (inr e) =
    cond-false (eqb x 1 || eqb y 1) 1 _ (or_from (eqb x 1) (eqb y 1) (ne_eqb x 1 (λ z. both_ways (clash x y) apart (clash_on_off x y z e))) (ne_eqb y 1 (λ z. omega arith)))
    ∙ cond-true (eqb x 2 || eqb y 2) 2 3 (or_right (eqb x 2) (eqb y 2) (eq-eqb y 2 e))

module _ (on : Setting) (v w : ℕ) where
  no_clash : Obeys on v → Obeys on w → (g : ℕ) → g < 16 → clash (mark v g) (mark w g) ≡ false
  no_clash ov ow g l = elim (cases_Bool (clash (mark v g) (mark w g))) [
    | inl e ↦ elim (or_cases (eqb (mark v g) 1 && eqb (mark w g) 2) (eqb (mark v g) 2 && eqb (mark w g) 1) e) [
      | inl h ↦
          let p = and_parts (eqb (mark v g) 1) (eqb (mark w g) 2) h in
          absurd (both_ways (on g) ((ow g l).1 (eqb-true (mark w g) 2 p.1)) ((ov g l).0 (eqb-true (mark v g) 1 p.0)))
      | inr h ↦
          let p = and_parts (eqb (mark v g) 2) (eqb (mark w g) 1) h in
          absurd (both_ways (on g) ((ov g l).1 (eqb-true (mark v g) 2 p.0)) ((ow g l).0 (eqb-true (mark w g) 1 p.1)))
    ]
    | inr e ↦ e
  ]

  -- words that one setting obeys agree
  pub obeyed_agree : Obeys on v → Obeys on w → agree v w ≡ true
  obeyed_agree ov ow = (decides_agree v w).1 (no_clash ov ow)

  module _ (ag : agree v w ≡ true) where
    -- of words that agree, the merger is obeyed exactly when both are
    pub obeys_merged : Obeys on v → Obeys on w → Obeys on (merged v w)
    obeys_merged ov ow g l = (
      (λ e. elim (said_one (mark v g) (mark w g) (sym (mark_merged v w ag g l) ∙ e)) [ inl h ↦ (ov g l).0 h | inr h ↦ (ow g l).0 h ]),
      (λ e. elim (said_two (mark v g) (mark w g) (sym (mark_merged v w ag g l) ∙ e)) [ inl h ↦ (ov g l).1 h | inr h ↦ (ow g l).1 h ]),
    )

    pub obeys_left : Obeys on (merged v w) → Obeys on v
    obeys_left o g l = (
      (λ e. (o g l).0 (mark_merged v w ag g l ∙ one_says_on (mark v g) (mark w g) (inl e))),
      (λ e. (o g l).1 (mark_merged v w ag g l ∙ one_says_off (mark v g) (mark w g) ((decides_agree v w).0 ag g l) (inl e))),
    )

    pub obeys_right : Obeys on (merged v w) → Obeys on w
    obeys_right o g l = (
      (λ e. (o g l).0 (mark_merged v w ag g l ∙ one_says_on (mark v g) (mark w g) (inr e))),
      (λ e. (o g l).1 (mark_merged v w ag g l ∙ one_says_off (mark v g) (mark w g) ((decides_agree v w).0 ag g l) (inr e))),
    )

-- Parts of an input that code cuts off. Assumes nothing.
use Rattle.std.proofs.Common.{◌≡◌, ℕ, suc, ◌+◌, ◌-◌, min, Bool, true, false, cond, eqb, List, [], ◌∷◌, length, take, drop, sym, refl, ap, ◌∙◌, inl, inr, arith}
use Rattle.std.specs.List.{prefix_len}
use Rattle.std.proofs.lemmas.List.{drop_all}
use Rattle.std.proofs.lemmas.Slice.{between_to_end}
use Rattle.std.proofs.lemmas.Bool.{cases_lt, false≢true}
use Rattle.protocol.specs.Lines.{in_line, begun, lines_of}

pub not_empty : (s : List ℕ) → false ≡ eqb (length s) 0 → s ≡ [] → ⊥
not_empty s e z = false≢true (e ∙ ap (λ (x : List ℕ). eqb (length x) 0) z)

-- what stands past the first n bytes and the one that follows them, if one does
pub past_line : (s : List ℕ) (n m : ℕ) → m ≡ min (length s) (n + 1) → take (length s - m) (drop m s) ≡ drop (n + 1) s
past_line s n m e = between_to_end s m (length s) (omega arith) ∙ elim (cases_lt n (length s)) [
  | inl h ↦ (let k : m ≡ n + 1 = omega arith in ap (λ (x : ℕ). drop x s) k)
  | inr h ↦ (drop_all m s (omega arith) ∙ sym (drop_all (n + 1) s (omega arith)))
]

-- ---- the first of the lines, as `Cuts` has it
abbrev Cut : List ℕ → ℕ → Type 0
Cut s k = lines_of s ≡ take k s ∷ lines_of (drop (k + 1) s)

in_feed : (b : ℕ) (bs : List ℕ) (t : Bool) → ((c : ℕ) (cs : List ℕ) → bs ≡ c ∷ cs → Cut bs (prefix_len in_line bs)) → cond t (begun b (lines_of bs)) ([] ∷ lines_of bs) ≡ take (cond t (1 + prefix_len in_line bs) 0) (b ∷ bs) ∷ lines_of (drop (cond t (1 + prefix_len in_line bs) 0 + 1) (b ∷ bs))
in_feed b [] true h = refl
in_feed b (c ∷ cs) true h =
    let k = prefix_len in_line (c ∷ cs) in
    let e : suc (k + 1) ≡ suc k + 1 = omega arith in
    let one : suc k ≡ 1 + k = omega arith in
    ap (begun b) (h c cs refl) ∙ ap (λ (m : ℕ). (b ∷ take k (c ∷ cs)) ∷ lines_of (drop m (b ∷ c ∷ cs))) e
    ∙ ap (λ (n : ℕ). take n (b ∷ c ∷ cs) ∷ lines_of (drop (n + 1) (b ∷ c ∷ cs))) one
in_feed b bs false h = refl

lines_at : (s : List ℕ) (c : ℕ) (cs : List ℕ) → s ≡ c ∷ cs → Cut s (prefix_len in_line s)
lines_at [] c cs e = absurd (let z = ap length e in omega arith)
lines_at (b ∷ bs) c cs e = in_feed b bs (in_line b) (lines_at bs)

pub lines_cut : (s line rest : List ℕ) → (s ≡ [] → ⊥) × (line ≡ take (prefix_len in_line s) s) × (rest ≡ drop (prefix_len in_line s + 1) s) → lines_of s ≡ line ∷ lines_of rest
lines_cut [] line rest h = absurd (h.0 refl)
lines_cut (b ∷ bs) line rest h = lines_at (b ∷ bs) b bs refl ∙ (λ i. sym h.1 i ∷ lines_of (sym h.2 i))

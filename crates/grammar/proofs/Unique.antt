-- A text is at most one formula. Assumes nothing.
use Rattle.std.proofs.Common.{◌≡◌, ℕ, zero, suc, ◌+◌, ◌*◌, ◌<◌, ◌≤◌, List, sym, refl, ap, subst, arith}
use Rattle.reading.specs.Tokens.{Tok, and', or', until'}
use Rattle.grammar.specs.declared.state.Infix.{Infix}
use Rattle.grammar.specs.declared.state.Infix.TheVariants as ops
use Rattle.logic.specs.Form.{Form, signal, until, implies, not_form, next_form, always, eventually}
use Rattle.grammar.specs.Limits.{Stream, end, stop, more, tokens}
use Rattle.grammar.specs.Grammar.{Rung, atom, untils, ands, ors, whole, Reads, r_true, r_false, r_name, r_not, r_next, r_always, r_eventually, r_paren, r_until, r_and, r_or, r_implies, as_until, as_and, as_or, as_whole, Derives}
use Rattle.grammar.specs.Ahead.{op_rank, infix_form}
use Rattle.grammar.specs.Parts.{rung_rank}
use Rattle.grammar.proofs.Reading.{some_rank}

abbrev pub len : Stream → ℕ
len (end m) = 0
len (stop c p) = 0
len (more t p s) = suc (len s)

module _ (names : List (List ℕ)) where
  pub shrinks : {l : Rung} {s u : Stream} {f : Form} → Reads names l s f u → len u < len s
  shrinks r_true = omega arith
  shrinks r_false = omega arith
  shrinks (r_name e) = omega arith
  shrinks (r_not r) = let h = shrinks r in omega arith
  shrinks (r_next r) = let h = shrinks r in omega arith
  shrinks (r_always r) = let h = shrinks r in omega arith
  shrinks (r_eventually r) = let h = shrinks r in omega arith
  shrinks (r_paren r) = let h = shrinks r in omega arith
  shrinks (r_until r q) = let h = shrinks r in let k = shrinks q in omega arith
  shrinks (r_and r q) = let h = shrinks r in let k = shrinks q in omega arith
  shrinks (r_or r q) = let h = shrinks r in let k = shrinks q in omega arith
  shrinks (r_implies r q) = let h = shrinks r in let k = shrinks q in omega arith
  shrinks (as_until r) = shrinks r
  shrinks (as_and r) = shrinks r
  shrinks (as_or r) = shrinks r
  shrinks (as_whole r) = shrinks r

  -- two readings of one front, both as long as they can be, agree
  abbrev Agree : Form → Form → Stream → Stream → Type 0
  Agree f g u v = (f ≡ g) × (u ≡ v)

  abbrev OnlyOne : Rung → Stream → Type 0
  OnlyOne l s = (f g : Form) (u v : Stream) → Reads names l s f u → Reads names l s g v → rung_rank l < op_rank u → rung_rank l < op_rank v → Agree f g u v

  -- ---- a row of operands that groups to the left, from its first on
  module _ (k : Rung) (op : Infix) (t : Tok) where
    data Chain : Form → Stream → Form → Stream → Type 0 where
      none : {f : Form} {u : Stream} → Chain f u f u
      link : {p : ℕ} {f g h : Form} {u v w : Stream} → Reads names k u g v → Chain (infix_form op f g) v h w → Chain f (more t p u) h w

    snoc : {p : ℕ} {f g h : Form} {u v w : Stream} → Chain f u h (more t p v) → Reads names k v g w → Chain f u (infix_form op h g) w
    snoc none q = link q none
    snoc (link r c) q = link r (snoc c q)

    -- an operand before the operator is as long as it can be
    ends : (n : ℕ) → ((p : ℕ) (s : Stream) → op_rank (more t p s) ≡ n) → rung_rank k < n → {f h : Form} {u w : Stream} → Chain f u h w → n < op_rank w → rung_rank k < op_rank u
    ends n at low none h = omega arith
    ends n at low (link {p = p} {u = u} r c) h = rw (at p u) low

    rows : (n bound : ℕ) → ((p : ℕ) (s : Stream) → op_rank (more t p s) ≡ n) → rung_rank k < n → ((s : Stream) → len s < bound → OnlyOne k s) → {f f' h i : Form} {u u' w x : Stream} → Chain f u h w → Chain f' u' i x → f ≡ f' → u ≡ u' → len u ≤ bound → n < op_rank w → n < op_rank x → Agree h i w x
    rows n bound at low ih none none e q b a z = (e, q)
    rows n bound at low ih none (link {p = p} {u = u} r c) e q b a z = absurd (omega (arith, ap op_rank q, at p u))
    rows n bound at low ih (link {p = p} {u = u} r c) none e q b a z = absurd (omega (arith, ap op_rank q, at p u))
    rows n bound at low ih {f} {f'} (link {p = p} {g = g} {u = u} {v = v} r c) (link {p = p'} {g = g'} {u = u'} {v = v'} r' c') e q b a z =
        let from : u ≡ u' = cc in
        let same = ih u (omega arith) g g' v v' r (subst (λ y. Reads names k y g' v') (sym from) r') (ends n at low c a) (ends n at low c' z) in
        let short = shrinks r in
        rows n bound at low ih c c' (λ j. infix_form op (e j) (same.0 j)) same.1 (omega arith) a z

    record First (s : Stream) (h : Form) (w : Stream) : Type 0 where
      form : Form
      mid : Stream
      front : Reads names k s form mid
      row : Chain form mid h w

    firsts : (n : ℕ) → ((p : ℕ) (s : Stream) → op_rank (more t p s) ≡ n) → rung_rank k < n → (s : Stream) → OnlyOne k s → ((x : Stream) → len x < len s → OnlyOne k x) → {h i : Form} {w x : Stream} → First s h w → First s i x → n < op_rank w → n < op_rank x → Agree h i w x
    firsts n at low s here below a b y z =
        let same = here a.form b.form a.mid b.mid a.front b.front (ends n at low a.row y) (ends n at low b.row z) in
        let short = shrinks a.front in
        rows n (len s) at low below a.row b.row same.0 same.1 (omega arith) y z

  split_and : {s u : Stream} {f : Form} → Reads names ands s f u → First untils ops.And and' s f u
  split_and (r_and r q) = let a = split_and r in record { form = a.form; mid = a.mid; front = a.front; row = snoc untils ops.And and' a.row q }
  split_and {u = u} {f = f} (as_and r) = record { form = f; mid = u; front = r; row = none }

  split_or : {s u : Stream} {f : Form} → Reads names ors s f u → First ands ops.Or or' s f u
  split_or (r_or r q) = let a = split_or r in record { form = a.form; mid = a.mid; front = a.front; row = snoc ands ops.Or or' a.row q }
  split_or {u = u} {f = f} (as_or r) = record { form = f; mid = u; front = r; row = none }

  -- ---- each level, from what holds of the tighter ones and of shorter streams
  at_ands : (s : Stream) → OnlyOne untils s → ((x : Stream) → len x < len s → OnlyOne untils x) → OnlyOne ands s
  at_ands s here below f g u v r q a z = firsts untils ops.And and' 2 (λ p x. refl) (omega arith) s here below (split_and r) (split_and q) a z

  at_ors : (s : Stream) → OnlyOne ands s → ((x : Stream) → len x < len s → OnlyOne ands x) → OnlyOne ors s
  at_ors s here below f g u v r q a z = firsts ands ops.Or or' 3 (λ p x. refl) (omega arith) s here below (split_or r) (split_or q) a z

  at_atom : (s : Stream) → ((x : Stream) → len x < len s → OnlyOne atom x) → ((x : Stream) → len x < len s → OnlyOne whole x) → (f g : Form) (u v : Stream) → Reads names atom s f u → Reads names atom s g v → Agree f g u v
  at_atom s ih in' f g u v r_true r_true = (refl, refl)
  at_atom s ih in' f g u v r_false r_false = (refl, refl)
  at_atom s ih in' f g u v (r_name {g = i} e) (r_name {g = j} e') = let same : i ≡ j = cc in (ap signal same, refl)
  at_atom s ih in' f g u v (r_not r) (r_not q) = let same = ih _ (omega arith) _ _ _ _ r q (some_rank u) (some_rank v) in (ap not_form same.0, same.1)
  at_atom s ih in' f g u v (r_next r) (r_next q) = let same = ih _ (omega arith) _ _ _ _ r q (some_rank u) (some_rank v) in (ap next_form same.0, same.1)
  at_atom s ih in' f g u v (r_always r) (r_always q) = let same = ih _ (omega arith) _ _ _ _ r q (some_rank u) (some_rank v) in (ap always same.0, same.1)
  at_atom s ih in' f g u v (r_eventually r) (r_eventually q) = let same = ih _ (omega arith) _ _ _ _ r q (some_rank u) (some_rank v) in (ap eventually same.0, same.1)
  at_atom s ih in' f g u v (r_paren r) (r_paren q) =
      let same = in' _ (omega arith) _ _ _ _ r q (omega arith) (omega arith) in
      let rest : u ≡ v = cc in
      (same.0, rest)

  at_untils : (s : Stream) → OnlyOne atom s → ((x : Stream) → len x < len s → OnlyOne untils x) → OnlyOne untils s
  at_untils s here below f g u v (r_until {p = p} {u = m} r q) (r_until {p = p'} {u = m'} {g = g'} r' q') a z =
      let one = here _ _ _ _ r r' (some_rank (more until' p m)) (some_rank (more until' p' m')) in
      let mid : m ≡ m' = cc in
      let short = shrinks r in
      let two = below m (omega arith) _ _ _ _ q (subst (λ x. Reads names untils x g' v) (sym mid) q') a z in
      ((λ i. until (one.0 i) (two.0 i)), two.1)
  at_untils s here below f g u v (r_until {p = p} {u = m} r q) (as_until r') a z = let one = here _ _ _ _ r r' (some_rank (more until' p m)) (some_rank v) in absurd (omega (arith, ap op_rank one.1))
  at_untils s here below f g u v (as_until r) (r_until {p = p} {u = m} r' q') a z = let one = here _ _ _ _ r r' (some_rank u) (some_rank (more until' p m)) in absurd (omega (arith, ap op_rank one.1))
  at_untils s here below f g u v (as_until r) (as_until r') a z = here _ _ _ _ r r' (some_rank u) (some_rank v)

  at_whole : (s : Stream) → OnlyOne ors s → ((x : Stream) → len x < len s → OnlyOne whole x) → OnlyOne whole s
  at_whole s here below f g u v (r_implies {u = m} r q) (r_implies {u = m'} {g = g'} r' q') a z =
      let one = here _ _ _ _ r r' (omega arith) (omega arith) in
      let mid : m ≡ m' = cc in
      let short = shrinks r in
      let two = below m (omega arith) _ _ _ _ q (subst (λ x. Reads names whole x g' v) (sym mid) q') a z in
      ((λ i. implies (one.0 i) (two.0 i)), two.1)
  at_whole s here below f g u v (r_implies r q) (as_whole r') a z = let one = here _ _ _ _ r r' (omega arith) (omega arith) in absurd (omega (arith, ap op_rank one.1))
  at_whole s here below f g u v (as_whole r) (r_implies r' q') a z = let one = here _ _ _ _ r r' (omega arith) (omega arith) in absurd (omega (arith, ap op_rank one.1))
  at_whole s here below f g u v (as_whole r) (as_whole r') a z = here _ _ _ _ r r' (omega arith) (omega arith)

  only : (n : ℕ) (l : Rung) (s : Stream) → len s * 5 + rung_rank l < n → OnlyOne l s
  only zero l s b = absurd (omega arith)
  only (suc n) atom s b = λ f g u v r q _ _. at_atom s (λ x h. only n atom x (omega arith)) (λ x h. only n whole x (omega arith)) f g u v r q
  only (suc n) untils s b = at_untils s (only n atom s (omega arith)) (λ x h. only n untils x (omega arith))
  only (suc n) ands s b = at_ands s (only n untils s (omega arith)) (λ x h. only n untils x (omega arith))
  only (suc n) ors s b = at_ors s (only n ands s (omega arith)) (λ x h. only n ands x (omega arith))
  only (suc n) whole s b = at_whole s (only n ors s (omega arith)) (λ x h. only n whole x (omega arith))

  pub one_formula_lem : (text : List ℕ) (f g : Form) → Derives names text f → Derives names text g → f ≡ g
  one_formula_lem text f g a b = (only (len (tokens text) * 5 + 5) whole (tokens text) (omega arith) f g _ _ a.1 b.1 (omega arith) (omega arith)).0

-- A probe keeps what a plant keeps. Assumes nothing.
use Rattle.std.specs.Prelude.{◌≡◌, ℕ, ◌+◌, ◌<◌, ◌≤◌, min, true, cond, ◌==◌, ◌≢◌, nat_le, nat_lt}
use Rattle.std.proofs.Common.{sym, ◌∙◌, arith}
use Rattle.std.proofs.lemmas.Bool.{true≢false, false≢true, and_parts, eqb-true, ltb-true, leb-true, ne_eqb, cond_both, cond-false}
use Rattle.logic.specs.Marks.{all_either, Whole}
use Rattle.logic.proofs.Words.{mark_word_at, all_either_whole}
use Rattle.plant.specs.Meaning.{Lawful}
use Rattle.plant.specs.Unfit.{unfit, unfit_lawful}
use Rattle.plant.specs.Path.{value_mark, only, path, path_fits, probe}
use Rattle.plant.specs.declared.probe.Value.{Value}
use Rattle.plant.specs.declared.probe.Value.TheVariants.{On, Off}

pub value_small : (v : Value) → value_mark v < 4
value_small On = omega arith
value_small Off = omega arith

value_some : (v : Value) → value_mark v ≢ 0
value_some On z = omega arith
value_some Off z = omega arith

only_whole : (g : ℕ) (v : Value) → Whole (only g v)
only_whole g v h l z =
    cond_both (h == g) (value_mark v) 3 (λ m. m ≢ 0) (λ _. value_some v) (λ _ e. omega arith)
    (sym (mark_word_at (λ q. cond (q == g) (value_mark v) 3)
    (λ q. cond_both (q == g) (value_mark v) 3 (λ m. m < 4) (λ _. value_small v) (λ _. omega arith)) 16 h l) ∙ z)

path_lawful : (i g : ℕ) (v : Value) → path_fits i g ≡ true → Lawful (path i g v)
path_lawful i g v e =
    let sizes = and_parts (nat_le g 15) (nat_le i 1048574) e in
    let few : i ≤ 1048574 = leb-true i 1048574 sizes.1 in
    record {
      few_states = omega arith;
      few_promises = omega arith;
      unfit_states = λ z. absurd (true≢false z);
      unfit_promises = λ z. absurd (true≢false z);
      starts_exist = λ s z. omega (arith, eqb-true s 0 z);
      steps_from = λ s t z. ltb-true s (i + 2) (and_parts (nat_lt s (i + 2)) _ z).0;
      steps_to = λ s t z. omega (arith, eqb-true t (min (s + 1) (i + 1)) (and_parts (nat_lt s (i + 2)) _ z).1);
      fulfils_state = λ s k z. absurd (false≢true z);
      fulfils_promise = λ s k z. absurd (false≢true z);
      mark_some = λ s h. cond_both (s == i) (only g v) all_either Whole (λ _. only_whole g v) (λ _. all_either_whole);
      mark_none = λ s h. cond-false (s == i) (only g v) all_either (ne_eqb s i (λ z. omega arith));
    }

pub probe_lawful : (i g : ℕ) (v : Value) → Lawful (probe i g v)
probe_lawful i g v = cond_both (path_fits i g) (path i g v) unfit Lawful (path_lawful i g v) (λ e. unfit_lawful)

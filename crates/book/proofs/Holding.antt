-- What a book holds. Assumes nothing.
use Rattle.std.proofs.Common.{◌≡◌, ℕ, ◌<◌, ◌≤◌, Bool, true, false, cond, leb, List, [], ◌∷◌, ◌++◌, length, replicate, Some, None, Ok, Err, is_ok, vec_items, Option, Result, Vec, sym, refl, ap, ◌∙◌, arith}
use lib.ListN.{length-map}
use Rattle.std.specs.declared.alloc.Global.{Global}
use Rattle.std.proofs.lemmas.List.{map_push}
use Rattle.std.proofs.lemmas.Bool.{false≢true, leb-false}
use Rattle.std.specs.Result.{result_err}
use Rattle.faults.specs.Refusals.{Refusal}
use Rattle.logic.specs.Form.{Form}
use Rattle.reading.specs.Names.{names_of}
use Rattle.logic.specs.Basics.{basics, signals, tally}
use Rattle.logic.specs.declared.formula.Formula.{Formula}
use Rattle.book.specs.Rules.{rule_of, rules_of, together}
use Rattle.book.specs.Names.{is_one_name}
use Rattle.book.specs.Calls.{cause_of_declare}

pub names_long : (ns : List (Vec ℕ Global)) → length (names_of ns) ≡ length ns
names_long ns = length-map ns vec_items

pub names_push : (vs ws : List (Vec ℕ Global)) (x : Vec ℕ Global) (w : List ℕ) → ws ≡ vs ++ x ∷ [] → vec_items x ≡ w → names_of ws ≡ names_of vs ++ w ∷ []
names_push vs ws x w e d = ap names_of e ∙ map_push vec_items vs x ∙ ap (λ (y : List ℕ). names_of vs ++ y ∷ []) d

no_cause : (a b c : Bool) (p q r : Refusal) → cond a (cond b (Some q) (cond c (Some r) None)) (Some p) ≡ None → c ≡ false
no_cause true true c p q r e = absurd (let z : ◌≡◌ {A = ℕ} 0 1 = cc in omega arith)
no_cause true false true p q r e = absurd (let z : ◌≡◌ {A = ℕ} 0 1 = cc in omega arith)
no_cause true false false p q r e = refl
no_cause false b c p q r e = absurd (let z : ◌≡◌ {A = ℕ} 0 1 = cc in omega arith)

-- where a declare has no cause, there is room for a name
pub room_for_name : (vs : List (Vec ℕ Global)) (rs : List (Option Form)) (w : List ℕ) → None ≡ cause_of_declare (record { names = names_of vs; rules = rs }) w → length vs < 16
room_for_name vs rs w e =
    let few = leb-false 16 (length (names_of vs)) (no_cause (is_one_name w) _ (leb 16 (length (names_of vs))) _ _ _ (sym e)) in
    omega (arith, names_long vs, few)

pub none_few : basics (together (rules_of (replicate 8 None))) ≤ 12
unfolding signals tally
none_few = omega arith

pub rules_long : (ss : List (Option Formula)) → length ss ≡ 8 → length (rules_of ss) ≡ 8
rules_long ss e = length-map ss rule_of ∙ e

-- a call that grants refuses nothing
pub granted : {X E : Type 0} (r : Result X E) → true ≡ is_ok r → result_err r ≡ None
granted (Ok x) e = refl
granted (Err y) e = absurd (false≢true (sym e))

-- What a take comes to, cause by cause. Assumes nothing.
use Rattle.std.proofs.Common.{◌≡◌, ℕ, ◌+◌, ◌<◌, ◌≤◌, Bool, true, false, cond, ◌||◌, leb, List, length, get_or, set, is_some, Some, None, Ok, Option, sym, refl, ap, ◌∙◌, subst, arith}
use Rattle.std.proofs.lemmas.Bool.{leb-true}
use Rattle.faults.specs.Refusals.{Refusal}
use Rattle.logic.specs.Form.{Form}
use Rattle.logic.specs.Basics.{occurs, ops, basics, tally}
use Rattle.grammar.specs.declared.contents.Contents.{Contents}
use Rattle.grammar.specs.Answers.{Tells, SurveyedAs}
use Rattle.grammar.specs.Grammar.{Derives}
use Rattle.grammar.specs.Scan as scans
use Rattle.grammar.specs.Scan.{Verdict, granted, verdict}
use Rattle.grammar.proofs.Descent.{granted_derives}
use Rattle.book.specs.Rules.{together}
use Rattle.book.specs.Standing.{State, with_slot}
use Rattle.book.specs.Calls.{in_book, cause_of_slot, basics_cause, TextCause, TakeFrom, TakeCause}
use Rattle.book.proofs.Sets.{basics_set}

no_cause : (a b c : Bool) (p q r : Refusal) → None ≡ cond a (cond b (Some q) (cond c None (Some r))) (Some p) → (a ≡ true) × (b ≡ false) × (c ≡ true)
no_cause true true c p q r e = absurd (let z : ◌≡◌ {A = ℕ} 0 1 = cc in omega arith)
no_cause true false true p q r e = (refl, refl, refl)
no_cause true false false p q r e = absurd (let z : ◌≡◌ {A = ℕ} 0 1 = cc in omega arith)
no_cause false b c p q r e = absurd (let z : ◌≡◌ {A = ℕ} 0 1 = cc in omega arith)

none_if_not_some : (o : Option Form) → is_some o ≡ false → o ≡ None
none_if_not_some None e = refl
none_if_not_some (Some f) e = absurd (let z : ◌≡◌ {A = ℕ} 0 1 = cc in omega arith)

-- where the slot and the length are no cause, the slot is there and empty
pub slot_free : (s : State) (i : ℕ) (t : List ℕ) → None ≡ cause_of_slot s i t → (i ≤ 7) × (get_or s.rules i None ≡ None)
slot_free s i t e =
    let k = no_cause (leb i 7) (is_some (get_or s.rules i None)) (leb (length t) 512) _ _ _ e in
    (leb-true i 7 k.0, none_if_not_some _ k.1)

pub cause_of_text : (s : State) (i : ℕ) (t : List ℕ) (o : Option Refusal) → None ≡ cause_of_slot s i t → TextCause (verdict s.names t) s i t o → TakeCause s i t o
cause_of_text s i t o e h = subst (λ (x : Option Refusal). TakeFrom x s i t o) e h

pub cause_of_basics : (s : State) (i : ℕ) (t : List ℕ) (o : Option Refusal) → None ≡ cause_of_slot s i t → verdict s.names t ≡ granted → ((f : Form) → Derives s.names t f → o ≡ basics_cause (with_slot s i (Some f))) → TakeCause s i t o
cause_of_basics s i t o e v h = cause_of_text s i t o e (subst (λ (x : Verdict). TextCause x s i t o) (sym v) h)

-- the basics as they are counted before the text is read
abbrev pub counted : State → Contents → ℕ
counted s v = tally 16 (λ g. get_or v.signals g false || occurs (together s.rules) g) + (v.operators + ops (together s.rules))

pub basics_counted : (s : State) (i : ℕ) (v : Contents) (f : Form) → i < length s.rules → get_or s.rules i None ≡ None → Tells v f → basics (together (set s.rules i (Some f))) ≡ counted s v
basics_counted s i v f h e t = basics_set s.rules i v.operators (λ g. get_or v.signals g false) f h e t.operators t.signals

-- what a survey leaves to refuse: the basics
pub surveyed : (s : State) (i : ℕ) (t : List ℕ) (v : Contents) (b : Bool) (o : Option Refusal) → length s.rules ≡ 8 → None ≡ cause_of_slot s i t → SurveyedAs s.names t (Ok v) → b ≡ leb (counted s v) 12 → o ≡ cond b None (Some (in_book 11)) → TakeCause s i t o
surveyed s i t v b o eight e told d is =
    let free = slot_free s i t e in
    cause_of_basics s i t o e told.0
    (λ f der. is
    ∙ ap (λ (x : Bool). cond x None (Some (in_book 11))) d
    ∙ sym (ap (λ (n : ℕ). cond (leb n 12) None (Some (in_book 11))) (basics_counted s i v f (omega arith) free.1 (told.1 f der))))

-- where a take has no cause: the slot and the length give none, the text is granted, and its formula's basics find room
pub record Free (s : State) (i : ℕ) (t : List ℕ) : Type 0 where
  pub slot : None ≡ cause_of_slot s i t
  pub grants : verdict s.names t ≡ granted
  pub room : (f : Form) → Derives s.names t f → basics (together (set s.rules i (Some f))) ≤ 12

few : (b : Bool) (r : Refusal) → None ≡ cond b None (Some r) → b ≡ true
few true r e = refl
few false r e = absurd (let z : ◌≡◌ {A = ℕ} 0 1 = cc in omega arith)

free_text : (s : State) (i : ℕ) (t : List ℕ) (v : Verdict) → verdict s.names t ≡ v → None ≡ cause_of_slot s i t → TextCause v s i t None → Free s i t
free_text s i t granted is e h = record { slot = e; grants = is; room = λ f d. leb-true _ 12 (few _ _ (h f d)) }
free_text s i t (scans.refusal c p) is e h = absurd (let z : ◌≡◌ {A = ℕ} 0 1 = cc in omega arith)

free_from : (s : State) (i : ℕ) (t : List ℕ) (o : Option Refusal) → o ≡ cause_of_slot s i t → TakeFrom o s i t None → Free s i t
free_from s i t (Some r) e h = absurd (let z : ◌≡◌ {A = ℕ} 0 1 = cc in omega arith)
free_from s i t None e h = free_text s i t (verdict s.names t) refl e h

pub no_take_cause : (s : State) (i : ℕ) (t : List ℕ) → TakeCause s i t None → Free s i t
no_take_cause s i t h = free_from s i t (cause_of_slot s i t) refl h

-- a take has one first cause at most
same_text : (s : State) (i : ℕ) (t : List ℕ) (v : Verdict) (o u : Option Refusal) → v ≡ verdict s.names t → TextCause v s i t o → TextCause v s i t u → o ≡ u
same_text s i t granted o u is h k = let d = granted_derives s.names t (sym is) in h d.0 d.1 ∙ sym (k d.0 d.1)
same_text s i t (scans.refusal c p) o u is h k = h ∙ sym k

same_from : (s : State) (i : ℕ) (t : List ℕ) (x o u : Option Refusal) → TakeFrom x s i t o → TakeFrom x s i t u → o ≡ u
same_from s i t (Some r) o u h k = h ∙ sym k
same_from s i t None o u h k = same_text s i t (verdict s.names t) o u refl h k

pub one_take_cause : (s : State) (i : ℕ) (t : List ℕ) (o u : Option Refusal) → TakeCause s i t o → TakeCause s i t u → o ≡ u
one_take_cause s i t o u h k = same_from s i t (cause_of_slot s i t) o u h k

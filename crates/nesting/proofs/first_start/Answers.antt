use Rattle.std.proofs.Common.{◌≡◌, ℕ, ◌<◌, ◌≤◌, true, false, Some, None, Option, sym, ◌∙◌, rules, tests, arith}
use Rattle.std.specs.Prelude.{MatchOption}
use Rattle.std.proofs.lemmas.Bool.{false_from_ne_true, true≢false}
use Rattle.std.proofs.lemmas.Iterator.{first_from_Range}
use Rattle.plant.specs.Meaning.{Meaning, Lawful, Least}
use Rattle.nesting.proofs.first_start.Goals as goal

-- the first start below the number of states is the smallest start
least : (m : Meaning) → Lawful m → (n : ℕ) → n ≡ m.states → (r : Option ℕ)
    → MatchOption r ((k : ℕ) → 0 ≤ k → k < n → m.start k ≡ false) (λ i. (0 ≤ i) × (i < n) × (m.start i ≡ true) × ((k : ℕ) → 0 ≤ k → k < i → m.start k ≡ false))
    → Least m.start 0 r
least m law n e (Some i) h = (h.0, h.2, h.3)
least m law n e None h = λ v low. false_from_ne_true (m.start v) (λ is. true≢false (sym is ∙ h v low (omega (arith, e, law.starts_exist v is))))

pub returns : goal.returns
returns g c =
    let m = g.P.Plant.meaning c.args.p.now in
    least m (g.P.Plant.lawful c.args.p.now) _ c.states.ensures c.find.result
    (first_from_Range _ c.find.new.self _ c.find.result (λ s. m.start s ≡ true) (λ s. m.start s ≡ false) c.find.ensures.ran
    (λ x q h. search (rules, tests)) (λ x q h. search (rules, tests)))

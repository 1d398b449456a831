use Rattle.std.proofs.Common.{rules, tests, ◌≡◌, ◌<◌, ◌-◌, ℕ, Bool, true, false, length, get_or, subst, refl, arith}
use Rattle.std.specs.Bool.{⊤, MatchBool}
use Rattle.std.specs.List.{AllWithin, range_with_len}
use Rattle.std.proofs.lemmas.List.FromFn.{get_or-range_with_len, length-range_with_len}
use Rattle.std.proofs.lemmas.Iterator.{YieldsList-from_range, cases_from_all}
use Rattle.std.proofs.lemmas.Bool.{both_ways}
use Rattle.trees.specs.Stores.{root_of_lem, form_at_lem}
use Rattle.trees.proofs.Writing.{alike_below}
use Rattle.trees.proofs.classes.alike.Goals as goal

-- what all of the numbers below n have
each : (P : ℕ → Type 0) (n : ℕ) (r : Bool) (Q : Type 0) → r ≡ true → MatchBool r (AllWithin P (range_with_len 0 n) 0 (length (range_with_len 0 n))) Q → (k : ℕ) → k < n → P k
each P n true Q e h k l =
    let at : get_or (range_with_len 0 n) k 0 ≡ k = omega (arith, get_or-range_with_len 0 n k 0 l) in
    subst P at (h k 0 (omega arith) (omega (arith, length-range_with_len 0 n)))
each P n false Q e h k l = absurd (both_ways false refl e)

pub returns : goal.returns
returns c e =
    let a = c.args.a.now in
    let b = c.args.b.now in
    let same : ℕ → Type 0 = λ x. (root_of_lem b x ≡ root_of_lem a x) × (form_at_lem b x ≡ form_at_lem a x) in
    let all = cases_from_all _ _ c.all.result same (λ x. ⊤) c.all.ensures.ran (YieldsList-from_range 0 b.used (b.used - 0) refl refl) (λ x q k. search (rules, tests)) (λ x q k. tt) in
    let below : (k : ℕ) → k < b.used → same k = λ k l. each same (b.used - 0) c.all.result _ e all k (omega arith) in
    alike_below a b c.requires.more (λ k l. (below k l).0) (λ k l. (below k l).1)

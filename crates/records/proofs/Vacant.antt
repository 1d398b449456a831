-- The number that is taken next. Assumes nothing.
use Rattle.std.proofs.Common.{◌≡◌, ℕ, ◌+◌, ◌-◌, ◌<◌, take, get_or, ap, ◌∙◌, Some, arith}
use Rattle.std.proofs.lemmas.List.{take_more}
use Rattle.row.specs.Items.{Last}
use Rattle.records.specs.declared.vacancies.Vacancies.{Vacancies}
use Rattle.records.specs.Vacant.{vacant, Fits}

pub last_is : (v : Vacancies) → Fits v → 0 < v.count → Last (vacant v) (Some (get_or v.numbers (v.count - 1) 0))
last_is v f some =
    let back : v.count ≡ v.count - 1 + 1 = omega arith in
    (take (v.count - 1) v.numbers, ap (λ (k : ℕ). take k v.numbers) back ∙ take_more v.numbers (v.count - 1) 0 (omega (arith, f.0, f.1)))

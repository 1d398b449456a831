-- The numbers of a bank's idle slots. Assumes nothing.
--
--   vacant   the numbers, the one that is taken next last
--   Fits     they have places
use Rattle.std.specs.Prelude.{◌≡◌, ℕ, ◌≤◌, List, length, take}
use Rattle.records.specs.declared.vacancies.Vacancies.{Vacancies}

abbrev pub vacant : Vacancies → List ℕ
vacant v = take v.count v.numbers

abbrev pub Fits : Vacancies → Type 0
Fits v = (length v.numbers ≡ 1024) × (v.count ≤ 1024)

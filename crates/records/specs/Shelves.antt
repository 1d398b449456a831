-- What a bank over lent slots keeps. Assumes nothing.
--
--   Shelved   at most 1,024 slots, whose idle ones are those numbered, and every store's record is sound
use Rattle.std.specs.Prelude.{◌≡◌, ◌≤◌, List, length, count_by}
use Rattle.records.specs.declared.slots.Slot.{Slot}
use Rattle.records.specs.declared.vacancies.Vacancies.{Vacancies}
use Rattle.records.specs.Slots.{idle, Listed, Keeps}
use Rattle.records.specs.Vacant.{vacant, Fits}

pub record Shelved {R : Type 0} (sound : R → Type 0) (slots : List (Slot R)) (v : Vacancies) : Type 0 where
  pub small : length slots ≤ 1024
  pub fits : Fits v
  pub counted : length (vacant v) ≡ count_by idle slots
  pub listed : Listed slots (vacant v)
  pub kept : Keeps (λ r. ∥ sound r ∥₁) slots

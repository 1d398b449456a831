-- All that is known of this bank from outside. Assumes nothing.
use Rattle.std.specs.Prelude.{ℕ, List}
use Rattle.bank.specs.Views.{View}
use Rattle.records.specs.declared.slots.Slot.{Slot}
use Rattle.records.specs.Slots.{Keeps}
use Rattle.semitones.specs.Whole.{whole}
use Rattle.semitones.specs.Cells.{Record, stores, Sound}
use Rattle.semitones.specs.laws.Laws.{laws}

-- `laws` is a proof, and says nothing more
abbrev pub viewed : {S : Type 0} (slots : S → List (Slot Record)) (spare : S → ℕ) (kept : (s : S) → Keeps (λ r. ∥ Sound r ∥₁) (slots s)) → View S
viewed slots spare kept = record { variables = 256; kind = whole; meaning = λ s. stores (slots s) (spare s); laws = laws slots spare kept }

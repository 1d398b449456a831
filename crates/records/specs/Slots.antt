-- What slots hold, and what they mean. Assumes nothing.
--
--   idle              no store stands in a slot
--   live_at           a store stands at a place
--   noted             what is noted of the record at a place
--   means             the meaning of a bank that keeps each store in one slot
--   Stands            a store stands at a place, or it is not live
--   Keeps             every store's record has a property
--   Listing, Listed   numbers list the idle slots
--   Written           one slot is changed, and no other
--   holding           a slot with another record
--   begun             a slot in which a store begins
--   SameRecords       every slot has the record that it had
--   Copied            a slot has a record like another's
use Rattle.std.specs.Prelude.{◌≡◌, ℕ, ◌<◌, Bool, true, false, not, List, [], map, length, get_or, count_by, Ok, Err, Result, slice_index, slice_index_or, slice_set}
use Rattle.bank.specs.declared.Refusal.{Refusal}
use Rattle.bank.specs.declared.Refusal.TheVariants.{NotLive, NoSpare, BadConstraint, BadVariable, Contradiction, TextTooLong}
use Rattle.bank.specs.Kinds.{Assignment, Solutions}
use Rattle.bank.specs.Views.{Meaning}
use Rattle.records.specs.declared.slots.Slot.{Slot}

abbrev pub idle : {R : Type 0} → Slot R → Bool
idle s = not s.live

-- past the last slot there is none
abbrev pub live_at : {R : Type 0} → List (Slot R) → ℕ → Bool
live_at slots i = slice_index_or (map (λ s. s.live) slots) i false

-- past the last slot it is `none`
abbrev pub noted : {R A : Type 0} → A → (R → A) → List (Slot R) → ℕ → A
noted none f slots i = slice_index_or (map (λ s. f s.record) slots) i none

abbrev pub means : {R : Type 0} → (R → Solutions) → (R → ℕ → List ℕ) → List (Slot R) → ℕ → Meaning
means solutions text slots spare = record {
  live = live_at slots;
  solutions = noted (λ σ. false) solutions slots;
  text = noted (λ x. []) text slots;
  spare = spare;
}

abbrev pub Stands : {R : Type 0} → List (Slot R) → ℕ → Result ℕ Refusal → Type 0
Stands slots s (Ok i) = (i ≡ s) × (live_at slots s ≡ true)
Stands slots s (Err NotLive) = live_at slots s ≡ false
Stands slots s (Err NoSpare) = ⊥
Stands slots s (Err BadConstraint) = ⊥
Stands slots s (Err BadVariable) = ⊥
Stands slots s (Err Contradiction) = ⊥
Stands slots s (Err TextTooLong) = ⊥

-- what `slice_index_or` gives past the last slot does not matter, since no store stands there
abbrev pub Keeps : {R : Type 0} → (R → Type 0) → List (Slot R) → Type 0
Keeps {R} P slots = (i : ℕ) (past : Slot R) → live_at slots i ≡ true → P (get_or slots i past).record

-- the numbers are those of the idle slots, each once
pub record Listing {R : Type 0} (slots : List (Slot R)) (numbers : List ℕ) : Type 0 where
  pub counted : length numbers ≡ count_by idle slots
  pub within : (i : ℕ) → i < length numbers → slice_index numbers i < length slots
  pub free : (i : ℕ) → i < length numbers → live_at slots (slice_index numbers i) ≡ false
  pub once : (i j : ℕ) → i < length numbers → j < length numbers → slice_index numbers i ≡ slice_index numbers j → i ≡ j

-- a ghost field takes a fact that has one proof at most
abbrev pub Listed : {R : Type 0} → List (Slot R) → List ℕ → Type 0
Listed slots numbers = ∥ Listing slots numbers ∥₁

-- what `slice_index_or` gives past the last slot does not matter, since nothing is written there
abbrev pub Written : {R : Type 0} → ℕ → (Slot R → Slot R) → List (Slot R) → List (Slot R) → Type 0
Written {R} at change slots after = (past : Slot R) → after ≡ slice_set slots at (change (slice_index_or slots at past))

abbrev pub holding : {R : Type 0} → R → Slot R → Slot R
holding r s = record { live = s.live; «record» = r }

abbrev pub begun : {R : Type 0} → Slot R → Slot R
begun s = record { live = true; «record» = s.record }

pub record SameRecords {R : Type 0} (slots after : List (Slot R)) : Type 0 where
  pub long : length after ≡ length slots
  pub same : (i : ℕ) (past : Slot R) → (get_or after i past).record ≡ (get_or slots i past).record

pub record Copied {R : Type 0} (Alike : R → R → Type 0) (Sound : R → Type 0) (solutions : R → Solutions) (from to : ℕ) (slots after : List (Slot R)) : Type 0 where
  pub new : R
  pub alike : (past : Slot R) → Alike (slice_index_or slots from past).record new
  pub sound : Sound new
  pub same : (past : Slot R) (σ : Assignment) → solutions new σ ≡ solutions (slice_index_or slots from past).record σ
  pub is : Written to (holding new) slots after

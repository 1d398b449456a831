-- What the slots of this bank mean. Assumes nothing.
--
--   means              each live slot is a store: its solutions, and the texts of its variables
-- and, for the contracts of private functions:
--   SoundAt            the record at a place is sound
--   ToldAside, ToldAt  a store is told, and nothing else changes but what an idle slot holds
use Rattle.std.specs.Prelude.{◌≡◌, ℕ, ◌<◌, false, List, length, Result, slice_index_or}
use Rattle.bank.specs.declared.Effect.{Effect}
use Rattle.bank.specs.declared.Refusal.{Refusal}
use Rattle.bank.specs.Views.{Meaning}
use Rattle.records.specs.declared.slots.Slot.{Slot}
use Rattle.records.specs.Slots as of_slots
use Rattle.trees.specs.Stores.{Store, solves}
use Rattle.trees.specs.Values.{given, Sound}
use Rattle.trees.specs.Tasks.{Told}
use Rattle.trees.specs.declared.tasks.Task.{Task}
use Rattle.trees.specs.Texts.{show}

abbrev pub text_of : Store → ℕ → List ℕ
text_of r x = show (given r x)

abbrev pub means : List (Slot Store) → ℕ → Meaning
means = of_slots.means solves text_of

abbrev pub SoundAt : ℕ → List (Slot Store) → Type 0
SoundAt i slots = (past : Slot Store) → Sound (slice_index_or slots i past).record

-- with what another slot holds then
pub record ToldAside (store aside : ℕ) (t : Task) (slots after : List (Slot Store)) (y : Result Effect Refusal) : Type 0 where
  pub mid : List (Slot Store)
  pub held : Store
  pub beside : of_slots.Written aside (of_slots.holding held) slots mid
  pub new : Store
  pub is : of_slots.Written store (of_slots.holding new) mid after
  pub told : (past : Slot Store) → Told (slice_index_or slots store past).record new t y

-- an idle slot at most holds another record
pub data Spared (slots : List (Slot Store)) : List (Slot Store) → Type 0 where
  none : Spared slots slots
  one : (mid : List (Slot Store)) (at : ℕ) (held : Store) → at < length slots → of_slots.live_at slots at ≡ false → of_slots.Written at (of_slots.holding held) slots mid → Spared slots mid

pub record ToldAt (store : ℕ) (t : Task) (slots after : List (Slot Store)) (y : Result Effect Refusal) : Type 0 where
  pub mid : List (Slot Store)
  pub spared : Spared slots mid
  pub new : Store
  pub is : of_slots.Written store (of_slots.holding new) mid after
  pub told : (past : Slot Store) → Told (slice_index_or slots store past).record new t y

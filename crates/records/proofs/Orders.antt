-- What a bank keeps of its slots, as one is written. Assumes nothing.
use Rattle.std.proofs.Common.{◌≡◌, ℕ, ◌<◌, ◌≤◌, true, false, List, [], ◌∷◌, ◌++◌, length, get_or, set, count_by, sym, ◌∙◌, arith, length-set}
use Rattle.std.proofs.lemmas.List.Sums.{count_by-le-length}
use Rattle.std.proofs.lemmas.Bool.{both_ways}
use Rattle.records.specs.declared.slots.Slot.{Slot}
use Rattle.records.specs.Slots.{idle, live_at, holding, Listing, Listed, Keeps}
use Rattle.records.proofs.Places.{live_is, live_within, keeps_set}
use Rattle.records.proofs.Counts.{count_ended, count_same}
use Rattle.records.proofs.Listings.{listing_of, last_within, last_free, listing_begun, listing_ended, listing_same}

-- at most 1,024 slots, of which `spare` are idle, and those listed, and every store's record has a property
pub record Orderly {R : Type 0} (P : R → Type 0) (slots : List (Slot R)) (numbers : List ℕ) (spare : ℕ) : Type 0 where
  pub small : length slots ≤ 1024
  pub counted : spare ≡ count_by idle slots
  pub listed : Listed slots numbers
  pub kept : Keeps P slots

-- a store begins in the slot that is listed last
module _ {R : Type 0} (P : R → Type 0) (slots : List (Slot R)) (rest : List ℕ) (at spare : ℕ) (O : Orderly P slots (rest ++ at ∷ []) spare) where
  listing_last : Listing slots (rest ++ at ∷ [])
  listing_last = listing_of slots (rest ++ at ∷ []) O.listed

  pub taken_within : at < length slots
  taken_within = last_within slots rest at listing_last

  pub taken_free : live_at slots at ≡ false
  taken_free = last_free slots rest at listing_last

  pub orderly_begun : (y : Slot R) → y.live ≡ true → P y.record → Orderly P (set slots at y) rest (length rest)
  orderly_begun y is has =
      let L = listing_begun slots rest at listing_last y is in
      record {
        small = omega (arith, length-set slots at y, O.small);
        counted = L.counted;
        listed = ∣ L ∣₁;
        kept = keeps_set slots at y P O.kept (λ e. has);
      }

module _ {R : Type 0} (P : R → Type 0) (slots : List (Slot R)) (numbers : List ℕ) (spare : ℕ) (O : Orderly P slots numbers spare) where
  listing : Listing slots numbers
  listing = listing_of slots numbers O.listed

  -- where a store stands, not all are idle
  pub room_left : (s : ℕ) (y : Slot R) → live_at slots s ≡ true → y.live ≡ false → length numbers < 1024
  room_left s y was is = omega (arith, O.small, listing.counted, count_ended slots s y (live_within slots s was) was is, count_by-le-length idle (set slots s y), length-set slots s y)

  pub orderly_ended : (s : ℕ) (y : Slot R) → live_at slots s ≡ true → y.live ≡ false → Orderly P (set slots s y) (numbers ++ s ∷ []) (length (numbers ++ s ∷ []))
  orderly_ended s y was is =
      let L = listing_ended slots numbers listing s y was is in
      record {
        small = omega (arith, length-set slots s y, O.small);
        counted = L.counted;
        listed = ∣ L ∣₁;
        kept = keeps_set slots s y P O.kept (λ e. absurd (both_ways y.live is e));
      }

  pub orderly_changed : (s : ℕ) (y : Slot R) → s < length slots → y.live ≡ live_at slots s → (y.live ≡ true → P y.record) → Orderly P (set slots s y) numbers spare
  orderly_changed s y l live has =
      let L = listing_same slots numbers listing s y l live in
      record {
        small = omega (arith, length-set slots s y, O.small);
        counted = O.counted ∙ sym (count_same slots s y l live);
        listed = ∣ L ∣₁;
        kept = keeps_set slots s y P O.kept has;
      }

  -- a slot holds another record
  pub orderly_held : (s : ℕ) (r : R) (past : Slot R) → s < length slots → (live_at slots s ≡ true → P r) → Orderly P (set slots s (holding r (get_or slots s past))) numbers spare
  orderly_held s r past l has =
      let live = live_is slots s past l in
      orderly_changed s (holding r (get_or slots s past)) l (sym live) (λ e. has (live ∙ e))

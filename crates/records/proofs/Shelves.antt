-- A store that begins on a shelf, and one that ends. Assumes nothing.
use Rattle.std.proofs.Common.{◌≡◌, ℕ, ◌<◌, false, List, [], ◌∷◌, ◌++◌, length, get_or, set, Some, None, Option, sym, refl, ap, ◌∙◌, subst, arith, length-set}
use Rattle.std.proofs.lemmas.List.{length_push}
use Rattle.std.specs.Prelude.{MatchOption}
use Rattle.row.specs.Items.{Last}
use Rattle.bank.specs.Kinds.{Assignment, Solutions}
use Rattle.bank.specs.Calls.{Added}
use Rattle.records.specs.declared.slots.Slot.{Slot}
use Rattle.records.specs.declared.vacancies.Vacancies.{Vacancies}
use Rattle.records.specs.Slots.{live_at, means, holding, begun, Written, Listing, Listed}
use Rattle.records.specs.Vacant.{vacant, Fits}
use Rattle.records.specs.Shelves.{Shelved}
use Rattle.records.proofs.Listings.{listing_of, last_within, last_free}
use Rattle.records.proofs.Orders.{Orderly, taken_within, taken_free, orderly_begun}
use Rattle.records.proofs.Places.{written, written_then}
use Rattle.records.proofs.Writes.{added}

-- what every store's record keeps, as a shelf has it
abbrev pub Held : {R : Type 0} → (R → Type 0) → R → Type 0
Held sound r = ∥ sound r ∥₁

pub orderly : {R : Type 0} (sound : R → Type 0) (slots : List (Slot R)) (v : Vacancies) → Shelved sound slots v → Orderly (Held sound) slots (vacant v) (length (vacant v))
orderly sound slots v S = record { small = S.small; counted = S.counted; listed = S.listed; kept = S.kept }

pub shelved : {R : Type 0} (sound : R → Type 0) (slots : List (Slot R)) (v : Vacancies) → Fits v → Orderly (Held sound) slots (vacant v) (length (vacant v)) → Shelved sound slots v
shelved sound slots v f O = record { small = O.small; fits = f; counted = O.counted; listed = O.listed; kept = O.kept }

-- the number that stands last is that of an idle slot, or there is none
pub vacant_idle :
    {R : Type 0} (slots : List (Slot R)) (numbers : List ℕ) → Listed slots numbers → (r : Option ℕ) → Last numbers r
    → MatchOption r (length numbers ≡ 0) (λ i. (i < length slots) × (live_at slots i ≡ false))
vacant_idle slots numbers L None e = ap length e
vacant_idle slots numbers L (Some at) e =
    let N = subst (Listing slots) e.1 (listing_of slots numbers L) in
    (last_within slots e.0 at N, last_free slots e.0 at N)

-- the slot that is taken next
module _ {R : Type 0} (sound : R → Type 0) (slots : List (Slot R)) (numbers rest : List ℕ) (at : ℕ) (e : numbers ≡ rest ++ at ∷ []) (O : Orderly (Held sound) slots numbers (length numbers)) where
  O-last : Orderly (Held sound) slots (rest ++ at ∷ []) (length numbers)
  O-last = subst (λ (ns : List ℕ). Orderly (Held sound) slots ns (length numbers)) e O

  pub next_within : at < length slots
  next_within = taken_within (Held sound) slots rest at (length numbers) O-last

  pub next_free : live_at slots at ≡ false
  next_free = taken_free (Held sound) slots rest at (length numbers) O-last

  -- a store begins there
  module _ (r : R) (past : Slot R) (after : List (Slot R)) (W : Written at (λ s. begun (holding r s)) slots after) where
    pub begun_orderly : sound r → Orderly (Held sound) after rest (length rest)
    begun_orderly S = subst (λ (xs : List (Slot R)). Orderly (Held sound) xs rest (length rest)) (sym (W past))
        (orderly_begun (Held sound) slots rest at (length numbers) O-last (begun (holding r (get_or slots at past))) refl ∣ S ∣₁)

    pub begun_added :
        (solutions : R → Solutions) (text : R → ℕ → List ℕ) (f : Solutions) → ((σ : Assignment) → solutions r σ ≡ f σ)
        → Added (means solutions text slots (length numbers)) (means solutions text after (length rest)) at f
    begun_added solutions text f has = subst (λ (xs : List (Slot R)). Added (means solutions text slots (length numbers)) (means solutions text xs (length rest)) at f) (sym (W past))
        (added solutions text slots at (begun (holding r (get_or slots at past))) next_within (length numbers) (length rest) f next_free refl has
        (sym (ap length e ∙ length_push rest at)))

-- a slot is given a record, and a store begins there
pub begun_then :
    {R : Type 0} (at : ℕ) (r : R) (slots mid : List (Slot R)) (past : Slot R) → at < length slots → Written at (holding r) slots mid
    → Written at (λ s. begun (holding r s)) slots (set mid at (begun (get_or mid at past)))
begun_then at r slots mid past l W =
    let long : at < length mid = subst (λ (xs : List (Slot _)). at < length xs) (sym (W past)) (omega (arith, length-set slots at (holding r (get_or slots at past)))) in
    written_then at (holding r) begun slots mid (set mid at (begun (get_or mid at past))) l W (written at begun mid past (begun (get_or mid at past)) long refl)

-- a slot whose store ends
abbrev pub ended : {R : Type 0} → Slot R → Slot R
ended s = record { live = false; «record» = s.record }

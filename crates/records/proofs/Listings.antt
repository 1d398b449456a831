-- The numbers of idle slots, as slots are written. Assumes nothing.
use Rattle.std.proofs.Common.{◌≡◌, ℕ, ◌+◌, ◌-◌, ◌<◌, true, false, List, [], ◌∷◌, ◌++◌, length, get_or, set, count_by, sym, refl, ap, ◌∙◌, subst, ⊎_elim, arith, length-set}
use mathlib.Core.Logic.{∥∥₁_elim}
use native.Mathlib.Bridge.{le_prop}
use base.Stored.{coded_ℕ, coded_bool}
use denote.Struct.Props.{≡_prop}
use Rattle.std.proofs.lemmas.List.{get_or_append_left, length_push, get_or_push}
use Rattle.std.proofs.lemmas.Bool.{cases_eq, both_ways}
use Rattle.records.specs.declared.slots.Slot.{Slot}
use Rattle.records.specs.Slots.{idle, live_at, Listing, Listed}
use Rattle.records.proofs.Places.{live_within, live_here, live_there, live_same}
use Rattle.records.proofs.Counts.{count_begun, count_ended, count_same}

-- a listing has one proof at most, so it comes out of a truncation
listing_prop : {R : Type 0} (slots : List (Slot R)) (numbers : List ℕ) → IsProp (Listing slots numbers)
listing_prop slots numbers p q = λ i. record {
  counted = ≡_prop coded_ℕ _ _ p.counted q.counted i;
  within = λ k h. le_prop (p.within k h) (q.within k h) i;
  free = λ k h. ≡_prop coded_bool _ _ (p.free k h) (q.free k h) i;
  once = λ j k h l e. ≡_prop coded_ℕ _ _ (p.once j k h l e) (q.once j k h l e) i;
}

pub listing_of : {R : Type 0} (slots : List (Slot R)) (numbers : List ℕ) → Listed slots numbers → Listing slots numbers
listing_of slots numbers t = ∥∥₁_elim t (listing_prop slots numbers) (λ l. l)

-- all slots are idle, and numbered with the first last
pub listing_all :
    {R : Type 0} (slots : List (Slot R)) (numbers : List ℕ) (n : ℕ) → length numbers ≡ n → n ≡ count_by idle slots → n ≡ length slots → ((i : ℕ) → live_at slots i ≡ false)
    → ((i : ℕ) → i < n → get_or numbers i 0 ≡ n - 1 - i) → Listing slots numbers
listing_all slots numbers n many counted long none is = record {
  counted = many ∙ counted;
  within = λ i h. omega (arith, is i (omega arith));
  free = λ i h. none (get_or numbers i 0);
  once = λ i j h k e. omega (arith, is i (omega arith), is j (omega arith));
}

-- the last of the numbers is that of an idle slot
module _ {R : Type 0} (slots : List (Slot R)) (rest : List ℕ) (at : ℕ) (L : Listing slots (rest ++ at ∷ [])) where
  many : (i : ℕ) → i < length rest → i < length (rest ++ at ∷ [])
  many i h = omega (arith, length_push rest at)

  ends : length rest < length (rest ++ at ∷ [])
  ends = omega (arith, length_push rest at)

  last : get_or (rest ++ at ∷ []) (length rest) 0 ≡ at
  last = get_or_push rest at 0 (length rest) refl

  old : (i : ℕ) → i < length rest → get_or (rest ++ at ∷ []) i 0 ≡ get_or rest i 0
  old i h = get_or_append_left rest (at ∷ []) 0 i h

  pub last_within : at < length slots
  last_within = subst (λ (n : ℕ). n < length slots) last (L.within (length rest) ends)

  pub last_free : live_at slots at ≡ false
  last_free = ap (live_at slots) (sym last) ∙ L.free (length rest) ends

  -- a store begins there
  pub listing_begun : (y : Slot R) → y.live ≡ true → Listing (set slots at y) rest
  listing_begun y is = record {
    counted = omega (arith, count_begun slots at y last_within last_free is, L.counted, length_push rest at);
    within = λ i h. omega (arith, old i h, L.within i (many i h), length-set slots at y);
    free = λ i h.
        live_there slots at y (get_or rest i 0) (λ q. let z : i ≡ length rest = L.once i (length rest) (many i h) ends (old i h ∙ q ∙ sym last) in omega arith)
        ∙ ap (live_at slots) (sym (old i h)) ∙ L.free i (many i h);
    once = λ i j h k e. L.once i j (many i h) (many j k) (old i h ∙ e ∙ sym (old j k));
  }

module _ {R : Type 0} (slots : List (Slot R)) (numbers : List ℕ) (L : Listing slots numbers) where
  -- a store ends, and its number is the last
  module _ (s : ℕ) (y : Slot R) (was : live_at slots s ≡ true) (is : y.live ≡ false) where
    more : List ℕ
    more = numbers ++ s ∷ []

    kept : (i : ℕ) → i < length numbers → get_or more i 0 ≡ get_or numbers i 0
    unfolding more
    kept i h = get_or_append_left numbers (s ∷ []) 0 i h

    other : (i : ℕ) → i < length numbers → get_or numbers i 0 ≡ s → ⊥
    other i h q = both_ways (live_at slots s) (ap (live_at slots) (sym q) ∙ L.free i h) was

    is_last : (i : ℕ) → i ≡ length numbers → get_or more i 0 ≡ s
    unfolding more
    is_last i q = get_or_push numbers s 0 i (sym q)

    below : (i : ℕ) → i < length more → i < length numbers + 1
    unfolding more
    below i h = omega (arith, length_push numbers s)

    within : (i : ℕ) → i < length numbers + 1 → get_or more i 0 < length (set slots s y)
    within i h = ⊎_elim
        (λ (q : i ≡ length numbers). omega (arith, is_last i q, live_within slots s was, length-set slots s y))
        (λ ne. let l : i < length numbers = omega arith in omega (arith, kept i l, L.within i l, length-set slots s y))
        (cases_eq i (length numbers))

    free : (i : ℕ) → i < length numbers + 1 → live_at (set slots s y) (get_or more i 0) ≡ false
    free i h = ⊎_elim
        (λ (q : i ≡ length numbers). ap (live_at (set slots s y)) (is_last i q) ∙ live_here slots s y (live_within slots s was) ∙ is)
        (λ ne. let l : i < length numbers = omega arith in ap (live_at (set slots s y)) (kept i l) ∙ live_there slots s y (get_or numbers i 0) (other i l) ∙ L.free i l)
        (cases_eq i (length numbers))

    once : (i j : ℕ) → i < length numbers + 1 → j < length numbers + 1 → get_or more i 0 ≡ get_or more j 0 → i ≡ j
    once i j h k e = ⊎_elim
        (λ (p : i ≡ length numbers). ⊎_elim
        (λ (q : j ≡ length numbers). p ∙ sym q)
        (λ ne. let l : j < length numbers = omega arith in absurd (other j l (sym (kept j l) ∙ sym e ∙ is_last i p)))
        (cases_eq j (length numbers)))
        (λ me. let m : i < length numbers = omega arith in ⊎_elim
        (λ (q : j ≡ length numbers). absurd (other i m (sym (kept i m) ∙ e ∙ is_last j q)))
        (λ ne. let l : j < length numbers = omega arith in L.once i j m l (sym (kept i m) ∙ e ∙ kept j l))
        (cases_eq j (length numbers)))
        (cases_eq i (length numbers))

    pub listing_ended : Listing (set slots s y) (numbers ++ s ∷ [])
    unfolding more
    listing_ended = record {
      counted = omega (arith, count_ended slots s y (live_within slots s was) was is, L.counted, length_push numbers s);
      within = λ i h. within i (below i h);
      free = λ i h. free i (below i h);
      once = λ i j h k e. once i j (below i h) (below j k) e;
    }

  -- a slot has another record
  pub listing_same : (s : ℕ) (y : Slot R) → s < length slots → y.live ≡ live_at slots s → Listing (set slots s y) numbers
  listing_same s y l live = record {
    counted = L.counted ∙ sym (count_same slots s y l live);
    within = λ i h. omega (arith, L.within i h, length-set slots s y);
    free = λ i h. live_same slots s y l live (get_or numbers i 0) ∙ L.free i h;
    once = L.once;
  }

-- What stands at a place, also after a write to one slot. Assumes nothing.
use Rattle.std.proofs.Common.{◌≡◌, ℕ, ◌<◌, ◌≤◌, true, false, List, map, length, get_or, set, sym, refl, ap, ◌∙◌, subst, ⊎_elim, length-set}
use Rattle.std.proofs.lemmas.List.{length-map, get_or-map, map-set, get_or_past, get_or-set_same, get_or-set_other, set-set, set_past, get_or_default}
use Rattle.std.proofs.lemmas.Bool.{cases_lt, cases_eq, false≢true}
use Rattle.records.specs.declared.slots.Slot.{Slot}
use Rattle.records.specs.Slots.{live_at, noted, Keeps, Written, SameRecords}

-- what is seen of the slot at a place
module _ {R A : Type 0} (f : Slot R → A) (none : A) (slots : List (Slot R)) (i : ℕ) where
  seen_is : (past : Slot R) → i < length slots → get_or (map f slots) i none ≡ f (get_or slots i past)
  seen_is past l = get_or-map f slots i past none l

  seen_here : (y : Slot R) → i < length slots → get_or (map f (set slots i y)) i none ≡ f y
  seen_here y l =
      ap (λ xs. get_or xs i none) (map-set f slots i y) ∙ get_or-set_same (map f slots) i (f y) none (subst (λ (n : ℕ). i < n) (sym (length-map slots f)) l)

  seen_there : (y : Slot R) (k : ℕ) → (k ≡ i → ⊥) → get_or (map f (set slots i y)) k none ≡ get_or (map f slots) k none
  seen_there y k ne = ap (λ xs. get_or xs k none) (map-set f slots i y) ∙ get_or-set_other (map f slots) i k (f y) none ne

  -- a write that does not show
  seen_same : (y : Slot R) → i < length slots → f y ≡ get_or (map f slots) i none → (k : ℕ) → get_or (map f (set slots i y)) k none ≡ get_or (map f slots) k none
  seen_same y l e k = ⊎_elim
      (λ (q : k ≡ i). ap (λ n. get_or (map f (set slots i y)) n none) q ∙ seen_here y l ∙ e ∙ ap (λ n. get_or (map f slots) n none) (sym q))
      (seen_there y k)
      (cases_eq k i)

module _ {R : Type 0} (slots : List (Slot R)) (i : ℕ) where
  pub live_is : (past : Slot R) → i < length slots → live_at slots i ≡ (get_or slots i past).live
  live_is = seen_is (λ s. s.live) false slots i

  pub noted_is : {A : Type 0} (none : A) (f : R → A) (past : Slot R) → i < length slots → noted none f slots i ≡ f (get_or slots i past).record
  noted_is none f = seen_is (λ s. f s.record) none slots i

  pub past_idle : length slots ≤ i → live_at slots i ≡ false
  past_idle h = get_or_past (map (λ s. s.live) slots) i false (subst (λ (n : ℕ). n ≤ i) (sym (length-map slots (λ s. s.live))) h)

  pub live_within : live_at slots i ≡ true → i < length slots
  live_within e = ⊎_elim (λ l. l) (λ h. absurd (false≢true (sym (past_idle h) ∙ e))) (cases_lt i (length slots))

  module _ (y : Slot R) where
    pub live_here : i < length slots → live_at (set slots i y) i ≡ y.live
    live_here = seen_here (λ s. s.live) false slots i y

    pub live_there : (k : ℕ) → (k ≡ i → ⊥) → live_at (set slots i y) k ≡ live_at slots k
    live_there = seen_there (λ s. s.live) false slots i y

    pub live_same : i < length slots → y.live ≡ live_at slots i → (k : ℕ) → live_at (set slots i y) k ≡ live_at slots k
    live_same = seen_same (λ s. s.live) false slots i y

    pub noted_here : {A : Type 0} (none : A) (f : R → A) → i < length slots → noted none f (set slots i y) i ≡ f y.record
    noted_here none f = seen_here (λ s. f s.record) none slots i y

    pub noted_there : {A : Type 0} (none : A) (f : R → A) (k : ℕ) → (k ≡ i → ⊥) → noted none f (set slots i y) k ≡ noted none f slots k
    noted_there none f = seen_there (λ s. f s.record) none slots i y

    -- what every store's record has, as one slot is written
    pub keeps_set : (P : R → Type 0) → Keeps P slots → (y.live ≡ true → P y.record) → Keeps P (set slots i y)
    keeps_set P old new k past e = ⊎_elim
        (λ (q : k ≡ i).
        let l : i < length slots = ⊎_elim (λ l. l)
        (λ h. absurd (false≢true (sym (past_idle h) ∙ ap (λ xs. live_at xs i) (sym (set_past slots i y h)) ∙ ap (live_at (set slots i y)) (sym q) ∙ e))) (cases_lt i (length slots)) in
        let here : get_or (set slots i y) k past ≡ y = ap (λ n. get_or (set slots i y) n past) q ∙ get_or-set_same slots i y past l in
        subst (λ (s : Slot R). P s.record) (sym here) (new (sym (live_here l) ∙ ap (live_at (set slots i y)) (sym q) ∙ e)))
        (λ ne. subst (λ (s : Slot R). P s.record) (sym (get_or-set_other slots i k y past ne)) (old k past (sym (live_there k ne) ∙ e)))
        (cases_eq k i)

pub keeps_none : {R : Type 0} (P : R → Type 0) (slots : List (Slot R)) → ((i : ℕ) → live_at slots i ≡ false) → Keeps P slots
keeps_none P slots none i past e = absurd (false≢true (sym (none i) ∙ e))

-- one slot is changed in place
pub written : {R : Type 0} (at : ℕ) (change : Slot R → Slot R) (slots : List (Slot R)) (old new : Slot R) → at < length slots → new ≡ change (get_or slots at old) → Written at change slots (set slots at new)
written at change slots old new l e past = ap (set slots at) (e ∙ ap change (get_or_default slots at old past l))

-- a change, and then another
pub written_then :
    {R : Type 0} (at : ℕ) (f g : Slot R → Slot R) (slots mid after : List (Slot R)) → at < length slots → Written at f slots mid → Written at g mid after
    → Written at (λ s. g (f s)) slots after
written_then {R} at f g slots mid after l F G past =
    let y = f (get_or slots at past) in
    G past ∙ ap (λ (xs : List (Slot R)). set xs at (g (get_or xs at past))) (F past) ∙ set-set slots at y (g (get_or (set slots at y) at past))
    ∙ ap (λ (s : Slot R). set slots at (g s)) (get_or-set_same slots at y past l)

module _ {R : Type 0} (at : ℕ) (f : Slot R → Slot R) (slots after : List (Slot R)) (W : Written at f slots after) (past : Slot R) where
  pub written_here : at < length slots → get_or after at past ≡ f (get_or slots at past)
  written_here l = ap (λ (xs : List (Slot R)). get_or xs at past) (W past) ∙ get_or-set_same slots at (f (get_or slots at past)) past l

  pub written_there : (k : ℕ) → (k ≡ at → ⊥) → get_or after k past ≡ get_or slots k past
  written_there k ne = ap (λ (xs : List (Slot R)). get_or xs k past) (W past) ∙ get_or-set_other slots at k (f (get_or slots at past)) past ne

-- records stay, as slots are written
pub same_none : {R : Type 0} (slots : List (Slot R)) → SameRecords slots slots
same_none slots = record { long = refl; same = λ i past. refl }

pub same_more :
    {R : Type 0} (slots after : List (Slot R)) (i : ℕ) (y : Slot R) → SameRecords slots after → i < length after
    → ((past : Slot R) → y.record ≡ (get_or after i past).record) → SameRecords slots (set after i y)
same_more slots after i y S l e = record {
  long = length-set after i y ∙ S.long;
  same = λ k past. ⊎_elim
      (λ (q : k ≡ i).
      ap (λ (n : ℕ). (get_or (set after i y) n past).record) q ∙ ap (λ (s : Slot _). s.record) (get_or-set_same after i y past l) ∙ e past
      ∙ ap (λ (n : ℕ). (get_or after n past).record) (sym q) ∙ S.same k past)
      (λ ne. ap (λ (s : Slot _). s.record) (get_or-set_other after i k y past ne) ∙ S.same k past)
      (cases_eq k i);
}

-- A record copied from one part of the slots to the other. Assumes nothing.
use Rattle.std.proofs.Common.{◌≡◌, ℕ, ◌-◌, ◌<◌, List, ◌++◌, length, get_or, set, sym, ap, ◌∙◌, subst, arith}
use Rattle.std.proofs.lemmas.List.{get_or_default, get_or_append_left, get_or-append_right, set-append_left, set-append_right}
use Rattle.bank.specs.Kinds.{Assignment, Solutions}
use Rattle.records.specs.declared.slots.Slot.{Slot}
use Rattle.records.specs.Slots.{holding, Copied}

module _ {R : Type 0} (Alike : R → R → Type 0) (Sound : R → Type 0) (solutions : R → Solutions) where
  copied :
      (from to : ℕ) (slots after : List (Slot R)) (r : R) (p q : Slot R) → from < length slots → to < length slots
      → Alike (get_or slots from q).record r → Sound r → ((σ : Assignment) → solutions r σ ≡ solutions (get_or slots from q).record σ)
      → after ≡ set slots to (holding r (get_or slots to p)) → Copied Alike Sound solutions from to slots after
  copied from to slots after r p q l m alike sound same is = record {
    new = r;
    alike = λ past. subst (λ (s : Slot R). Alike s.record r) (get_or_default slots from q past l) alike;
    sound = sound;
    same = λ past σ. subst (λ (s : Slot R). solutions r σ ≡ solutions s.record σ) (get_or_default slots from q past l) (same σ);
    is = λ past. is ∙ ap (λ (s : Slot R). set slots to (holding r s)) (get_or_default slots to p past m);
  }

  module _ (slots front back : List (Slot R)) (split : slots ≡ front ++ back) (from to : ℕ) (r : R) (p q : Slot R) (l : from < length slots) (m : to < length slots) where
    -- from the front to the first of the back
    pub copied_up :
        from < to → length front ≡ to → Alike (get_or front from q).record r → Sound r → ((σ : Assignment) → solutions r σ ≡ solutions (get_or front from q).record σ)
        → Copied Alike Sound solutions from to slots (front ++ set back 0 (holding r (get_or back 0 p)))
    copied_up less long alike sound same =
        let none : to - to ≡ 0 = omega arith in
        let source : get_or slots from q ≡ get_or front from q = ap (λ (xs : List (Slot R)). get_or xs from q) split ∙ get_or_append_left front back q from (omega arith) in
        let target : get_or slots to p ≡ get_or back 0 p =
        ap (λ (xs : List (Slot R)). get_or xs to p) split ∙ get_or-append_right front back to to p long (omega arith) ∙ ap (λ (n : ℕ). get_or back n p) none in
        let y = holding r (get_or slots to p) in
        copied from to slots (front ++ set back 0 (holding r (get_or back 0 p))) r p q l m
        (subst (λ (s : Slot R). Alike s.record r) (sym source) alike) sound (λ σ. same σ ∙ ap (λ (s : Slot R). solutions s.record σ) (sym source))
        (sym (ap (λ (xs : List (Slot R)). set xs to y) split ∙ set-append_right front back to to y long (omega arith)
        ∙ ap (λ (n : ℕ). front ++ set back n y) none ∙ ap (λ (s : Slot R). front ++ set back 0 (holding r s)) target))

    -- and the other way
    pub copied_down :
        to < from → length front ≡ from → Alike (get_or back 0 q).record r → Sound r → ((σ : Assignment) → solutions r σ ≡ solutions (get_or back 0 q).record σ)
        → Copied Alike Sound solutions from to slots (set front to (holding r (get_or front to p)) ++ back)
    copied_down less long alike sound same =
        let none : from - from ≡ 0 = omega arith in
        let source : get_or slots from q ≡ get_or back 0 q =
        ap (λ (xs : List (Slot R)). get_or xs from q) split ∙ get_or-append_right front back from from q long (omega arith) ∙ ap (λ (n : ℕ). get_or back n q) none in
        let target : get_or slots to p ≡ get_or front to p = ap (λ (xs : List (Slot R)). get_or xs to p) split ∙ get_or_append_left front back p to (omega arith) in
        let y = holding r (get_or slots to p) in
        copied from to slots (set front to (holding r (get_or front to p)) ++ back) r p q l m
        (subst (λ (s : Slot R). Alike s.record r) (sym source) alike) sound (λ σ. same σ ∙ ap (λ (s : Slot R). solutions s.record σ) (sym source))
        (sym (ap (λ (xs : List (Slot R)). set xs to y) split ∙ set-append_left front back to y (omega arith) ∙ ap (λ (s : Slot R). set front to (holding r s) ++ back) target))

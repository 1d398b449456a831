-- The laws of this bank. Assumes nothing.
use Rattle.std.specs.Prelude.{◌≡◌, ℕ, ◌<◌, ◌≤◌, true, false, List, [], length, replicate, pos, ◌≢◌, slice_index, slice_index_or, refl}
use Rattle.std.proofs.Common.{sym, ap, subst, ◌∙◌, lit≤}
use Rattle.bank.specs.Kinds.{number}
use Rattle.bank.specs.Views.{Laws}
use Rattle.records.specs.declared.slots.Slot.{Slot}
use Rattle.records.specs.Slots.{live_at, Keeps}
use Rattle.records.proofs.Places.{live_is, live_within, noted_is}
use Rattle.trees.specs.Kind.{trees}
use Rattle.trees.specs.Stores.{Store, no_cell, solves}
use Rattle.trees.specs.Values.{Sound, Kept, given}
use Rattle.trees.specs.Meaning.{means, text_of}
use Rattle.trees.specs.laws.Sounds.{sound_out}
use Rattle.trees.specs.laws.Decode.{show_some, show_plain}
use Rattle.trees.specs.laws.Canon.{same_texts, alike_values, alike_texts, modest}

-- the slot of a live store; what would stand past the last slot does not matter
module _ (slots : List (Slot Store)) (i : ℕ) (l : live_at slots i ≡ true) (past : Slot Store) where
  pub slot_live : (slice_index_or slots i past).live ≡ true
  slot_live = sym (live_is slots i past (live_within slots i l)) ∙ l

  pub solves_at : (p : ℕ) → (means slots p).solutions i ≡ solves (slice_index_or slots i past).record
  solves_at p = noted_is slots i (λ σ. false) solves past (live_within slots i l)

  pub text_at : (p : ℕ) → (means slots p).text i ≡ text_of (slice_index_or slots i past).record
  text_at p = noted_is slots i (λ x. []) text_of past (live_within slots i l)

  pub sound_at : Keeps Kept slots → Sound (slice_index_or slots i past).record
  sound_at K = sound_out (slice_index_or slots i past).record (K i past l)

-- what stands for a slot past the last one
abbrev pub no_slot : Slot Store
no_slot = record {
  live = false;
  «record» = record { used = 0; cells = replicate 256 no_cell };
}

abbrev pub record_at : List (Slot Store) → ℕ → Store
record_at slots i = (slice_index_or slots i no_slot).record

module _ {B : Type 0} (slots : B → List (Slot Store)) (spare : B → ℕ) (kept : (b : B) → Keeps Kept (slots b)) where
  module _ (b : B) (s : ℕ) (l : live_at (slots b) s ≡ true) where
    pub its_record : Store
    its_record = (slice_index_or (slots b) s no_slot).record

    pub its_texts : (means (slots b) (spare b)).text s ≡ text_of its_record
    unfolding its_record
    its_texts = text_at (slots b) s l no_slot (spare b)

    pub its_solutions : (means (slots b) (spare b)).solutions s ≡ solves its_record
    unfolding its_record
    its_solutions = solves_at (slots b) s l no_slot (spare b)

    pub is_sound : Sound its_record
    unfolding its_record
    is_sound = sound_at (slots b) s l no_slot (kept b)

  pub tree_laws : Laws {S = B} 256 trees (λ b. means (slots b) (spare b))
  tree_laws = record {
    wide = lit≤ tt;
    narrow = lit≤ tt;
    some_value = (number (pos 0), refl);
    same_texts = λ b c s t x l m h e.
        ap (λ f. f x) (its_texts b s l)
        ∙ same_texts (its_record b s l) (its_record c t m) (is_sound b s l) (is_sound c t m)
        (λ σ. sym (ap (λ f. f σ) (its_solutions b s l)) ∙ e σ ∙ ap (λ f. f σ) (its_solutions c t m)) x h
        ∙ sym (ap (λ f. f x) (its_texts c t m));
    alike = λ b s x y l h k e σ o.
        alike_values (its_record b s l) (is_sound b s l) x y h k
        (sym (ap (λ f. f x) (its_texts b s l)) ∙ e ∙ ap (λ f. f y) (its_texts b s l)) σ (sym (ap (λ f. f σ) (its_solutions b s l)) ∙ o);
    alike_back = λ b s x y l h k e.
        ap (λ f. f x) (its_texts b s l)
        ∙ alike_texts (its_record b s l) (is_sound b s l) x y (λ σ o. e σ (ap (λ f. f σ) (its_solutions b s l) ∙ o))
        ∙ sym (ap (λ f. f y) (its_texts b s l));
    some_byte = λ b s x l h.
        let r = its_record b s l in
        subst (λ (f : ℕ → List ℕ). 1 ≤ length (f x)) (sym (its_texts b s l)) (show_some (given r x) (modest r (is_sound b s l) x h));
    plain = λ b s x l h.
        let r = its_record b s l in
        subst (λ (f : ℕ → List ℕ). (i : ℕ) → i < length (f x) → (slice_index (f x) i ≢ 44) × (slice_index (f x) i ≢ 10)) (sym (its_texts b s l))
        (show_plain (given r x) (modest r (is_sound b s l) x h));
  }

-- The laws of this bank. Assumes nothing.
use Rattle.std.specs.Prelude.{◌≡◌, ℕ, suc, ◌^◌, ◌<◌, ◌≤◌, true, false, List, [], length, ℤ, pos, ◌+ℤ◌, ◌≢◌, slice_index, slice_index_or, refl}
use Rattle.std.proofs.Math.Path.{sym, ap}
use Rattle.std.proofs.Common.{subst, ◌∙◌, arith, lit≤}
use Rattle.std.proofs.Math.IntN.{+ℤ_idr}
use Rattle.std.specs.Int.Signed.{mag}
use Rattle.bank.specs.Kinds.{number, Assignment}
use Rattle.bank.specs.Views.{Laws}
use Rattle.records.specs.declared.slots.Slot.{Slot}
use Rattle.records.specs.Slots.{Keeps, live_at}
use Rattle.records.proofs.Places.{live_within, noted_is}
use Rattle.semitones.specs.Whole.{whole, number_of}
use Rattle.semitones.specs.Cells.{Record, node, root_of_lem, by_of, solves, named, shown, stores, Sound}
use Rattle.semitones.specs.laws.Solves.{solves_at, solves_number}
use Rattle.semitones.specs.laws.Bounds.{far}
use Rattle.semitones.specs.laws.Canon.{one_root, one_by, same_root, same_by}
use Rattle.semitones.specs.laws.Names.{same_named, some_named, plain_named}
use Rattle.semitones.specs.laws.Kept.{sound_out}

same_shown : (r s : Record) → Sound r → Sound s → ((σ : Assignment) → solves r σ ≡ solves s σ) → (v : ℕ) → v < 256 → shown r v ≡ shown s v
unfolding shown
same_shown r s R S same v h =
    let l : suc v < 257 = omega arith in
    ap (λ (x : ℕ). named x (by_of r (suc v))) (same_root r s R S same (suc v) l) ∙ ap (named (root_of_lem s (suc v))) (same_by r s R S same (suc v) l)

module _ (r : Record) (S : Sound r) where
  small : (a : ℕ) → mag (by_of r a) < 2 ^ 32
  small a = omega (arith, far r S a)

  low : (v : ℕ) → v < 256 → root_of_lem r (suc v) < 2 ^ 32
  low v h = omega (arith, S.low (suc v))

  alike_values : (x y : ℕ) → x < 256 → y < 256 → shown r x ≡ shown r y → (σ : Assignment) → solves r σ ≡ true → σ x ≡ σ y
  unfolding shown
  alike_values x y hx hy e σ t =
      let q = same_named (root_of_lem r (suc x)) (root_of_lem r (suc y)) (by_of r (suc x)) (by_of r (suc y)) (low x hx) (low y hy) (small (suc x)) (small (suc y)) e in
      let nodes : node σ (suc x) ≡ node σ (suc y) =
      solves_at r σ t (suc x) (omega arith) ∙ ap (λ (a : ℕ). node σ a +ℤ by_of r (suc x)) q.0 ∙ ap (λ (z : ℤ). node σ (root_of_lem r (suc y)) +ℤ z) q.1 ∙ sym (solves_at r σ t (suc y) (omega arith)) in
      solves_number r σ t x hx ∙ ap number nodes ∙ sym (solves_number r σ t y hy)

  alike_texts : (x y : ℕ) → ((σ : Assignment) → solves r σ ≡ true → σ x ≡ σ y) → shown r x ≡ shown r y
  unfolding shown
  alike_texts x y all =
      let nodes : (σ : Assignment) → solves r σ ≡ true → node σ (suc x) ≡ node σ (suc y) +ℤ pos 0 = λ σ t. ap number_of (all σ t) ∙ sym (+ℤ_idr (number_of (σ y))) in
      ap (λ (a : ℕ). named a (by_of r (suc x))) (one_root r S (suc x) (suc y) (pos 0) nodes)
      ∙ ap (named (root_of_lem r (suc y))) (one_by r S (suc x) (suc y) (pos 0) nodes ∙ +ℤ_idr (by_of r (suc y)))

  some_shown : (x : ℕ) → 1 ≤ length (shown r x)
  unfolding shown
  some_shown x = some_named (root_of_lem r (suc x)) (by_of r (suc x)) (small (suc x))

  plain_shown : (x : ℕ) → x < 256 → (i : ℕ) → i < length (shown r x) → (slice_index (shown r x) i ≢ 44) × (slice_index (shown r x) i ≢ 10)
  unfolding shown
  plain_shown x h i l = plain_named (root_of_lem r (suc x)) (by_of r (suc x)) (low x h) (small (suc x)) i 0 l

-- what stands past the last slot does not matter
abbrev pub no_slot : Slot Record
no_slot = record { live = false; «record» = record { used = 0; cells = [] } }

abbrev pub record_at : List (Slot Record) → ℕ → Record
record_at slots s = (slice_index_or slots s no_slot).record

module _ (slots : List (Slot Record)) (s : ℕ) (l : live_at slots s ≡ true) (past : Slot Record) where
  pub solutions_at : (spare : ℕ) (σ : Assignment) → (stores slots spare).solutions s σ ≡ solves (slice_index_or slots s past).record σ
  solutions_at spare σ = ap (λ f. f σ) (noted_is slots s _ solves past (live_within slots s l))

  pub text_at : (spare x : ℕ) → (stores slots spare).text s x ≡ shown (slice_index_or slots s past).record x
  text_at spare x = ap (λ f. f x) (noted_is slots s _ shown past (live_within slots s l))

  pub sound_at : Keeps (λ r. ∥ Sound r ∥₁) slots → Sound (slice_index_or slots s past).record
  sound_at kept = sound_out (slice_index_or slots s past).record (kept s past l)

module _ {S : Type 0} (slots : S → List (Slot Record)) (spare : S → ℕ) (kept : (b : S) → Keeps (λ r. ∥ Sound r ∥₁) (slots b)) where
  pub laws : Laws {S = S} 256 whole (λ b. stores (slots b) (spare b))
  laws = record {
    wide = lit≤ tt;
    narrow = lit≤ tt;
    some_value = (number (pos 0), refl);
    same_texts = λ b c s t x l m h e.
        text_at (slots b) s l no_slot (spare b) x
        ∙ same_shown (record_at (slots b) s) (record_at (slots c) t) (sound_at (slots b) s l no_slot (kept b)) (sound_at (slots c) t m no_slot (kept c))
        (λ σ. sym (solutions_at (slots b) s l no_slot (spare b) σ) ∙ e σ ∙ solutions_at (slots c) t m no_slot (spare c) σ) x h
        ∙ sym (text_at (slots c) t m no_slot (spare c) x);
    alike = λ b s x y l h k e σ t.
        alike_values (record_at (slots b) s) (sound_at (slots b) s l no_slot (kept b)) x y h k (sym (text_at (slots b) s l no_slot (spare b) x) ∙ e ∙ text_at (slots b) s l no_slot (spare b) y) σ
        (sym (solutions_at (slots b) s l no_slot (spare b) σ) ∙ t);
    alike_back = λ b s x y l h k e.
        text_at (slots b) s l no_slot (spare b) x
        ∙ alike_texts (record_at (slots b) s) (sound_at (slots b) s l no_slot (kept b)) x y (λ σ t. e σ (solutions_at (slots b) s l no_slot (spare b) σ ∙ t))
        ∙ sym (text_at (slots b) s l no_slot (spare b) y);
    some_byte = λ b s x l h. subst (λ (text : List ℕ). 1 ≤ length text) (sym (text_at (slots b) s l no_slot (spare b) x)) (some_shown (record_at (slots b) s) (sound_at (slots b) s l no_slot (kept b)) x);
    plain = λ b s x l h.
        subst (λ (text : List ℕ). (i : ℕ) → i < length text → (slice_index text i ≢ 44) × (slice_index text i ≢ 10)) (sym (text_at (slots b) s l no_slot (spare b) x))
        (plain_shown (record_at (slots b) s) (sound_at (slots b) s l no_slot (kept b)) x h);
  }

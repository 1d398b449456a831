-- What the text of a variable says of the solutions. Assumes nothing.
use Rattle.std.proofs.Common.{◌≡◌, ℕ, zero, suc, ◌<◌, true, List, ◌+ℤ◌, sym, refl, ap, ◌∙◌, subst, arith}
use lib.IntN.{+ℤ_idl}
use Rattle.bank.specs.Kinds.{number, Assignment, Solutions}
use Rattle.records.specs.declared.slots.Slot.{Slot}
use Rattle.records.specs.Slots.{live_at}
use Rattle.records.proofs.Places.{live_within, noted_is}
use Rattle.semitones.specs.Whole.{number_of}
use Rattle.semitones.specs.Cells.{Record, node, root_of_lem, by_of, solves, named, shown, stores, Sound}
use Rattle.semitones.specs.Says.{Says, a_number, a_name}
use Rattle.semitones.specs.laws.Solves.{solves_at, solves_number}
use Rattle.semitones.specs.laws.Canon.{one_root}
use Rattle.semitones.specs.laws.Laws.{no_slot, record_at, text_at}

module _ (r : Record) (S : Sound r) (x : ℕ) (h : x < 256) where
  lies_at : (ρ : ℕ) → root_of_lem r (suc x) ≡ ρ → (σ : Assignment) → solves r σ ≡ true → number_of (σ x) ≡ node σ ρ +ℤ by_of r (suc x)
  lies_at ρ e σ t = subst (λ (a : ℕ). node σ (suc x) ≡ node σ a +ℤ by_of r (suc x)) e (solves_at r σ t (suc x) (omega arith))

  by_root : (ρ : ℕ) → root_of_lem r (suc x) ≡ ρ → Says (solves r) x (shown r x)
  unfolding shown
  by_root zero e =
      a_number (by_of r (suc x))
      (λ σ t. solves_number r σ t x h ∙ ap number (lies_at zero e σ t ∙ +ℤ_idl (by_of r (suc x))))
      (ap (λ (a : ℕ). named a (by_of r (suc x))) e)
  by_root (suc v) e =
      a_name v (by_of r (suc x)) (omega (arith, S.low (suc x))) (lies_at (suc v) e)
      (λ y d l lies. let q = one_root r S (suc x) (suc y) d lies in omega (arith, S.low (suc y)))
      (λ z is. let q = one_root r S (suc x) 0 z (λ σ t. ap number_of (is σ t) ∙ sym (+ℤ_idl z)) in omega (arith, S.low 0))
      (ap (λ (a : ℕ). named a (by_of r (suc x))) e)

pub says_at :
    (slots : List (Slot Record)) (spare s x : ℕ) → Sound (record_at slots s) → live_at slots s ≡ true → x < 256 → Says ((stores slots spare).solutions s) x ((stores slots spare).text s x)
says_at slots spare s x S l h =
    subst (λ (f : Solutions). Says f x ((stores slots spare).text s x)) (sym (noted_is slots s _ solves no_slot (live_within slots s l)))
    (subst (λ (text : List ℕ). Says (solves (record_at slots s)) x text) (sym (text_at slots s l no_slot spare x)) (by_root (record_at slots s) S x h (root_of_lem (record_at slots s) (suc x)) refl))

-- How many slots are idle, as slots are written. Assumes nothing.
use Rattle.std.proofs.Common.{◌≡◌, ℕ, ◌+◌, ◌<◌, Bool, true, false, cond, not, List, length, get_or, take, set, count_by, sym, refl, ap, ◌∙◌, arith}
use Rattle.std.proofs.lemmas.List.{take_more_set}
use Rattle.std.proofs.lemmas.List.Sums.{sum_by_push, sum_by-set}
use Rattle.records.specs.declared.slots.Slot.{Slot}
use Rattle.records.specs.Slots.{idle, live_at}
use Rattle.records.proofs.Places.{live_is}

-- one slot more is made idle
pub idle_more : {R : Type 0} (slots : List (Slot R)) (i : ℕ) (y : Slot R) → i < length slots → y.live ≡ false → count_by idle (take i slots) ≡ i → count_by idle (take (i + 1) (set slots i y)) ≡ i + 1
idle_more slots i y l e h =
    let one : ◌≡◌ {A = ℕ} (cond (idle y) 1 0) 1 = ap (λ b. cond {A = ℕ} (not b) 1 0) e in
    let s = sum_by_push (λ x. cond (idle x) 1 0) (take i slots) y in
    ap (count_by idle) (take_more_set slots i y l) ∙ s ∙ omega arith

module _ {R : Type 0} (slots : List (Slot R)) (i : ℕ) (y : Slot R) (l : i < length slots) where
  counts : (was is : Bool) → live_at slots i ≡ was → y.live ≡ is → count_by idle (set slots i y) + cond (not was) 1 0 ≡ count_by idle slots + cond (not is) 1 0
  counts was is e f =
      let old : ◌≡◌ {A = ℕ} (cond (idle (get_or slots i y)) 1 0) (cond (not was) 1 0) = ap (λ b. cond {A = ℕ} (not b) 1 0) (sym (live_is slots i y l) ∙ e) in
      let new : ◌≡◌ {A = ℕ} (cond (idle y) 1 0) (cond (not is) 1 0) = ap (λ b. cond {A = ℕ} (not b) 1 0) f in
      let s = sum_by-set (λ x. cond (idle x) 1 0) slots i y y l in
      omega arith

  pub count_begun : live_at slots i ≡ false → y.live ≡ true → count_by idle (set slots i y) + 1 ≡ count_by idle slots
  count_begun was is = let s = counts false true was is in omega arith

  pub count_ended : live_at slots i ≡ true → y.live ≡ false → count_by idle (set slots i y) ≡ count_by idle slots + 1
  count_ended was is = let s = counts true false was is in omega arith

  pub count_same : y.live ≡ live_at slots i → count_by idle (set slots i y) ≡ count_by idle slots
  count_same e = let s = counts (live_at slots i) (live_at slots i) refl e in omega arith

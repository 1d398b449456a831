-- What an edge does to a record: it holds already, it never does, or two classes are joined. Assumes nothing.
use Rattle.std.proofs.Common.{◌≡◌, ℕ, zero, suc, ◌<◌, ◌≤◌, Bool, true, false, ◌&&◌, ℤ, pos, negsuc, ◌+ℤ◌, ◌-ℤ◌, neg_ℤ, nat_abs, ◌≤ℤ◌, sym, refl, subst, ⊎_elim, arith, w32, to_z, of_z}
use lib.Signed.{mag}
use Rattle.std.proofs.lemmas.Int.{ints}
use Rattle.std.proofs.lemmas.Bool.{and_parts, and_from, cases_Bool}
use Rattle.bank.specs.Kinds.{Assignment}
use Rattle.semitones.specs.declared.cells.Edge.{Edge}
use Rattle.semitones.specs.Cells.{Record, node, root_of_lem, by_of, solves, Sound}
use Rattle.semitones.specs.Joins.{Moved, says, Held, Joined, Refused}
use Rattle.semitones.specs.laws.Solves.{solves_at, eq_z_true, eq_eq_z}
use Rattle.semitones.proofs.Joining.{s_sound, forth, back_again}

-- what comes back of a sum that fits
pub plain_sum : (x g : ℤ) → mag x ≤ 1000000 → mag g ≤ 1000000 → to_z w32 (of_z w32 (to_z w32 (of_z w32 x) +ℤ to_z w32 (of_z w32 g))) ≡ x +ℤ to_z w32 (of_z w32 g)
plain_sum x g h k = omega (arith, ints)

-- what comes back of a number that fits, and of its negation
pub plain : (g : ℤ) → mag g ≤ 1000000 → to_z w32 (of_z w32 g) ≡ g
plain g h = omega (arith, ints)

pub plain_back : (g : ℤ) → mag g < 1000000 → to_z w32 (of_z w32 (pos 0 -ℤ to_z w32 (of_z w32 g))) ≡ neg_ℤ g
plain_back g h = omega (arith, ints)

pub small_back : (g : ℤ) → mag g < 1000000 → mag (neg_ℤ g) ≤ 1000000
small_back (pos zero) h = omega arith
small_back (pos (suc n)) h = omega arith
small_back (negsuc n) h = omega arith

pub zero_code : (g : ℤ) → mag g < 1000000 → of_z w32 g ≡ 0 → g ≡ pos 0
zero_code g h e = omega (arith, ints, e)

pub code_zero : (g : ℤ) → g ≡ pos 0 → of_z w32 g ≡ 0
code_zero g e = omega (arith, ints, e)

-- two tests are equal that hold together
same_test : (x y : Bool) → (x ≡ true → y ≡ true) → (y ≡ true → x ≡ true) → x ≡ y
same_test true true f g = refl
same_test true false f g = sym (f refl)
same_test false true f g = g refl
same_test false false f g = refl

low_side : (k : ℤ) → nat_abs k ≤ 1000 → pos 0 ≤ℤ (k +ℤ pos 1000)
low_side (pos n) h = omega (arith, ints)
low_side (negsuc n) h = omega (arith, ints)

high_side : (k : ℤ) → nat_abs k ≤ 1000 → k ≤ℤ pos 1000
high_side (pos n) h = omega (arith, ints)
high_side (negsuc n) h = omega (arith, ints)

no_gap : (g x y u p q k : ℤ) → g ≡ (p -ℤ q) -ℤ k → x ≡ u +ℤ p → y ≡ u +ℤ q → g ≡ pos 0 → x ≡ y +ℤ k
no_gap g x y u p q k eg e f h = omega (arith, ints, eg, e, f, h)

no_gap_back : (g x y u p q k : ℤ) → g ≡ (p -ℤ q) -ℤ k → x ≡ u +ℤ p → y ≡ u +ℤ q → x ≡ y +ℤ k → g ≡ pos 0
no_gap_back g x y u p q k eg e f h = omega (arith, ints, eg, e, f, h)

turned : (x y k : ℤ) → x ≡ y +ℤ k → y ≡ x +ℤ neg_ℤ k
turned x y k e = omega (arith, ints, e)

turned_back : (x y k : ℤ) → y ≡ x +ℤ neg_ℤ k → x ≡ y +ℤ k
turned_back x y k e = omega (arith, ints, e)

gap_back : (g x y k : ℤ) → g ≡ (x -ℤ y) -ℤ k → neg_ℤ g ≡ (y -ℤ x) -ℤ neg_ℤ k
gap_back g x y k e = omega (arith, ints, e)

neg_high : (k : ℤ) → nat_abs k ≤ 1000 → neg_ℤ k ≤ℤ pos 1000
neg_high k h = let v = low_side k h in omega (arith, ints)

neg_low : (k : ℤ) → nat_abs k ≤ 1000 → pos 0 ≤ℤ (neg_ℤ k +ℤ pos 1000)
neg_low k h = let v = high_side k h in omega (arith, ints)

-- b's root lies g above a's
module _ (r : Record) (e : Edge) (S : Sound r) (g : ℤ) (eg : g ≡ (by_of r e.a -ℤ by_of r e.b) -ℤ e.k) where
  module _ (same : root_of_lem r e.a ≡ root_of_lem r e.b) where
    a_is : (σ : Assignment) → solves r σ ≡ true → node σ e.a ≡ node σ (root_of_lem r e.b) +ℤ by_of r e.a
    a_is σ t = subst (λ (x : ℕ). node σ e.a ≡ node σ x +ℤ by_of r e.a) same (solves_at r σ t e.a e.nodes.0)

    -- the nodes are of one class, and lie as the edge says
    pub held : g ≡ pos 0 → Held r r e
    held none = record {
      same = refl;
      always = λ σ. same_test (solves r σ) (solves r σ && says e σ)
          (λ ok. and_from (solves r σ) (says e σ) ok (eq_eq_z (node σ e.a) (node σ e.b +ℤ e.k)
          (no_gap g (node σ e.a) (node σ e.b) (node σ (root_of_lem r e.b)) (by_of r e.a) (by_of r e.b) e.k eg (a_is σ ok) (solves_at r σ ok e.b e.nodes.1) none)))
          (λ both. (and_parts (solves r σ) (says e σ) both).0);
    }

    -- they lie otherwise
    pub refused : (g ≡ pos 0 → ⊥) → Refused r r e
    refused some = record {
      same = refl;
      never = λ σ. ⊎_elim
          (λ both.
          let ok = (and_parts (solves r σ) (says e σ) both).0 in
          let edge = eq_z_true (node σ e.a) (node σ e.b +ℤ e.k) (and_parts (solves r σ) (says e σ) both).1 in
          absurd (some (no_gap_back g (node σ e.a) (node σ e.b) (node σ (root_of_lem r e.b)) (by_of r e.a) (by_of r e.b) e.k eg (a_is σ ok) (solves_at r σ ok e.b e.nodes.1) edge)))
          (λ no. no) (cases_Bool (solves r σ && says e σ));
    }

  -- b's class goes under a's
  pub joined_up : (s : Record) (from to : ℕ) → to ≡ root_of_lem r e.a → from ≡ root_of_lem r e.b → to < from → Moved from to g r s → Joined r s e
  joined_up s from to ra rb lt M =
      let hi = high_side e.k e.close in
      let lo = low_side e.k e.close in
      record {
        sound = s_sound r s e.a e.b from to e.k g S e.nodes.0 e.nodes.1 (sym ra) (sym rb) lt eg hi lo M;
        solutions = λ σ. same_test (solves s σ) (solves r σ && says e σ)
            (λ ok. let h = back_again r s e.a e.b from to e.k g S e.nodes.0 e.nodes.1 (sym ra) (sym rb) lt eg hi lo M σ ok in
            and_from (solves r σ) (says e σ) h.0 (eq_eq_z (node σ e.a) (node σ e.b +ℤ e.k) h.1))
            (λ both. let h = and_parts (solves r σ) (says e σ) both in
            forth r s e.a e.b from to e.k g S e.nodes.0 e.nodes.1 (sym ra) (sym rb) lt eg hi lo M σ h.0 (eq_z_true (node σ e.a) (node σ e.b +ℤ e.k) h.1));
      }

  -- a's class goes under b's
  pub joined_down : (s : Record) (from to : ℕ) → from ≡ root_of_lem r e.a → to ≡ root_of_lem r e.b → to < from → Moved from to (neg_ℤ g) r s → Joined r s e
  joined_down s from to ra rb lt M =
      let hi = neg_high e.k e.close in
      let lo = neg_low e.k e.close in
      let back = gap_back g (by_of r e.a) (by_of r e.b) e.k eg in
      record {
        sound = s_sound r s e.b e.a from to (neg_ℤ e.k) (neg_ℤ g) S e.nodes.1 e.nodes.0 (sym rb) (sym ra) lt back hi lo M;
        solutions = λ σ. same_test (solves s σ) (solves r σ && says e σ)
            (λ ok. let h = back_again r s e.b e.a from to (neg_ℤ e.k) (neg_ℤ g) S e.nodes.1 e.nodes.0 (sym rb) (sym ra) lt back hi lo M σ ok in
            and_from (solves r σ) (says e σ) h.0 (eq_eq_z (node σ e.a) (node σ e.b +ℤ e.k) (turned_back (node σ e.a) (node σ e.b) e.k h.1)))
            (λ both. let h = and_parts (solves r σ) (says e σ) both in
            forth r s e.b e.a from to (neg_ℤ e.k) (neg_ℤ g) S e.nodes.1 e.nodes.0 (sym rb) (sym ra) lt back hi lo M σ h.0 (turned (node σ e.a) (node σ e.b) e.k (eq_z_true (node σ e.a) (node σ e.b +ℤ e.k) h.1)));
      }

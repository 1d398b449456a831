-- Sound records with equal solutions have equal cells. Assumes nothing.
use Rattle.std.specs.Prelude.{◌≡◌, ℕ, zero, suc, ◌<◌, ◌≤◌, true, cond, ℤ, pos, ◌+ℤ◌, ◌==◌, ◌≢◌}
use Rattle.std.proofs.Common.{⊎_elim, subst, ◌∙◌, arith}
use Rattle.std.proofs.Math.Path.{refl, sym, ap}
use Rattle.std.proofs.lemmas.Int.{ints}
use Rattle.std.proofs.lemmas.Bool.{eq-eqb, ne_eqb, cases_eq, cases_lt}
use Rattle.bank.specs.Kinds.{number, Assignment}
use Rattle.semitones.specs.Cells.{Record, node, root_of_lem, by_of, solves, Sound}
use Rattle.semitones.specs.laws.Solves.{solves_from, solves_at, admitted_from, given, given_node, given_solves}

-- one more for each node of a class
bump : Record → ℕ → ℕ → ℤ
bump r ρ a = cond (root_of_lem r a == ρ) (pos 1) (pos 0)

lifted : Record → ℕ → Assignment
lifted r ρ v = number (by_of r (suc v) +ℤ bump r ρ (suc v))

bump_in : (r : Record) (ρ a : ℕ) → root_of_lem r a ≡ ρ → bump r ρ a ≡ pos 1
unfolding bump
bump_in r ρ a e = ap (λ t. cond {A = ℤ} t (pos 1) (pos 0)) (eq-eqb (root_of_lem r a) ρ e)

bump_out : (r : Record) (ρ a : ℕ) → (root_of_lem r a ≢ ρ) → bump r ρ a ≡ pos 0
unfolding bump
bump_out r ρ a n = ap (λ t. cond {A = ℤ} t (pos 1) (pos 0)) (ne_eqb (root_of_lem r a) ρ n)

module _ (r : Record) (S : Sound r) (ρ : ℕ) (up : 0 < ρ) where
  lifted_node : (a : ℕ) → node (lifted r ρ) a ≡ by_of r a +ℤ bump r ρ a
  unfolding lifted
  lifted_node zero =
      let root : root_of_lem r 0 ≡ 0 = omega (arith, S.low 0) in
      let by : by_of r 0 ≡ pos 0 = sym (ap (by_of r) root) ∙ S.flat 0 in
      let b : bump r ρ 0 ≡ pos 0 = bump_out r ρ 0 (λ e. omega arith) in
      sym (ap (λ (x : ℤ). x +ℤ bump r ρ 0) by ∙ ap (λ (x : ℤ). pos 0 +ℤ x) b)
  lifted_node (suc v) = refl

  lifted_at : (a : ℕ) → node (lifted r ρ) a ≡ node (lifted r ρ) (root_of_lem r a) +ℤ by_of r a
  unfolding bump
  lifted_at a =
      let same : bump r ρ (root_of_lem r a) ≡ bump r ρ a = ap bump_of (S.top a) in
      sum (node (lifted r ρ) a) (node (lifted r ρ) (root_of_lem r a)) (by_of r a) (by_of r (root_of_lem r a)) (bump r ρ a) (bump r ρ (root_of_lem r a))
      (lifted_node a) (lifted_node (root_of_lem r a)) (S.flat a) same
    where
      bump_of : ℕ → ℤ
      bump_of x = cond (x == ρ) (pos 1) (pos 0)

      sum : (x y b c p q : ℤ) → x ≡ b +ℤ p → y ≡ c +ℤ q → c ≡ pos 0 → q ≡ p → x ≡ y +ℤ b
      sum x y b c p q e f h k = omega (arith, ints, e, f, h, k)

  lifted_solves : solves r (lifted r ρ) ≡ true
  unfolding lifted
  lifted_solves = solves_from r (lifted r ρ) (admitted_from (lifted r ρ) 256 (λ a h. refl)) (λ a h. lifted_at a)

no_lift : (x y k : ℤ) → x ≡ y +ℤ k → (x +ℤ pos 1) ≢ (y +ℤ pos 0) +ℤ k
no_lift x y k e f = omega (arith, ints, e, f)

no_lift_right : (x y k : ℤ) → x ≡ y +ℤ k → (x +ℤ pos 0) ≢ (y +ℤ pos 1) +ℤ k
no_lift_right x y k e f = omega (arith, ints, e, f)

-- nodes that lie equally far apart in each solution are of one class
pub one_root : (r : Record) → Sound r → (a b : ℕ) (k : ℤ) → ((σ : Assignment) → solves r σ ≡ true → node σ a ≡ node σ b +ℤ k) → root_of_lem r a ≡ root_of_lem r b
one_root r S a b k all = ⊎_elim (λ e. e) (λ ne. absurd (differ ne)) (cases_eq (root_of_lem r a) (root_of_lem r b))
  where
    base : by_of r a ≡ by_of r b +ℤ k
    base = sym (given_node r S a) ∙ all (given r) (given_solves r S) ∙ ap (λ (x : ℤ). x +ℤ k) (given_node r S b)

    left : 0 < root_of_lem r a → (root_of_lem r a ≢ root_of_lem r b) → ⊥
    left up ne =
        let ρ = root_of_lem r a in
        let h = sym (lifted_node r S ρ up a) ∙ all (lifted r ρ) (lifted_solves r S ρ up) ∙ ap (λ (x : ℤ). x +ℤ k) (lifted_node r S ρ up b) in
        let i : (by_of r a +ℤ pos 1) ≡ (by_of r b +ℤ pos 0) +ℤ k =
        ap (λ (x : ℤ). by_of r a +ℤ x) (sym (bump_in r ρ a refl)) ∙ h ∙ ap (λ (x : ℤ). (by_of r b +ℤ x) +ℤ k) (bump_out r ρ b (λ e. ne (sym e))) in
        no_lift (by_of r a) (by_of r b) k base i

    right : 0 < root_of_lem r b → (root_of_lem r a ≢ root_of_lem r b) → ⊥
    right up ne =
        let ρ = root_of_lem r b in
        let h = sym (lifted_node r S ρ up a) ∙ all (lifted r ρ) (lifted_solves r S ρ up) ∙ ap (λ (x : ℤ). x +ℤ k) (lifted_node r S ρ up b) in
        let i : (by_of r a +ℤ pos 0) ≡ (by_of r b +ℤ pos 1) +ℤ k =
        ap (λ (x : ℤ). by_of r a +ℤ x) (sym (bump_out r ρ a ne)) ∙ h ∙ ap (λ (x : ℤ). (by_of r b +ℤ x) +ℤ k) (bump_in r ρ b refl) in
        no_lift_right (by_of r a) (by_of r b) k base i

    differ : (root_of_lem r a ≢ root_of_lem r b) → ⊥
    differ ne = ⊎_elim (λ up. left up ne) (λ low. right (omega arith) ne) (cases_lt 0 (root_of_lem r a))

-- and the distance is that of the cells
pub one_by : (r : Record) → Sound r → (a b : ℕ) (k : ℤ) → ((σ : Assignment) → solves r σ ≡ true → node σ a ≡ node σ b +ℤ k) → by_of r a ≡ by_of r b +ℤ k
one_by r S a b k all = sym (given_node r S a) ∙ all (given r) (given_solves r S) ∙ ap (λ (x : ℤ). x +ℤ k) (given_node r S b)

root_below : (r s : Record) → Sound r → Sound s → ((σ : Assignment) → solves r σ ≡ solves s σ) → (a : ℕ) → a < 257 → root_of_lem s a ≤ root_of_lem r a
root_below r s R S same a h =
    let e = one_root s S a (root_of_lem r a) (by_of r a) (λ σ t. solves_at r σ (same σ ∙ t) a h) in
    omega (arith, e, S.low (root_of_lem r a))

pub same_root : (r s : Record) → Sound r → Sound s → ((σ : Assignment) → solves r σ ≡ solves s σ) → (a : ℕ) → a < 257 → root_of_lem r a ≡ root_of_lem s a
same_root r s R S same a h = omega (arith, root_below r s R S same a h, root_below s r S R (λ σ. sym (same σ)) a h)

cancel : (x u p q : ℤ) → x ≡ u +ℤ p → x ≡ u +ℤ q → p ≡ q
cancel x u p q e f = omega (arith, ints, e, f)

pub same_by : (r s : Record) → Sound r → Sound s → ((σ : Assignment) → solves r σ ≡ solves s σ) → (a : ℕ) → a < 257 → by_of r a ≡ by_of s a
same_by r s R S same a h =
    let σ = given r in
    let t = given_solves r R in
    cancel (node σ a) (node σ (root_of_lem r a)) (by_of r a) (by_of s a) (solves_at r σ t a h)
    (subst (λ (x : ℕ). node σ a ≡ node σ x +ℤ by_of s a) (sym (same_root r s R S same a h)) (solves_at s σ (sym (same σ) ∙ t) a h))

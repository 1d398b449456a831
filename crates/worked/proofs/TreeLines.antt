-- Lines over trees: the variables below p are one number, and the others are free. Assumes nothing.
use Rattle.std.proofs.Common.{◌≡◌, ℕ, zero, suc, ◌<◌, ◌≤◌, true, cond, eqb, ltb, List, [], ◌∷◌, ℤ, pos, codes, decimal, refl, ◌∙◌, ⊎_elim, arith}
use Prim.Native.String.{String}
use Rattle.std.specs.Fmt.{signed_decimal}
use Rattle.std.proofs.lemmas.Bool.{cases_lt, lt-ltb, le-ltb, eq-eqb, ne_eqb, cond-true, cond-false, cond_both, and_parts, and_from}
use Rattle.bank.specs.Kinds.{number, pair, Condition, Assignment, Solutions, all_admitted, all_hold}
use Rattle.bank.specs.Views.{Always}
use Rattle.trees.specs.Kind.{trees}
use Rattle.trees.specs.Says.{Says, a_number, a_name}
use Rattle.trees.specs.laws.Solves.{equal_true, equal_refl}
use Rattle.answer_line.specs.Lines.{line_of}
use Rattle.worked.specs.Rows.{over_trees, stored, LineIs}

abbrev filled : ℕ → ℤ → Assignment → Assignment
filled p k f v = cond (ltb v p) (number k) (f v)

abbrev texts : ℕ → ℤ → ℕ → List ℕ
texts p k x = cond (ltb x p) (signed_decimal k) (95 ∷ decimal x)

-- x alone is a pair
abbrev parted : ℤ → ℕ → Assignment
parted k x v = cond (eqb v x) (pair (number k) (number k)) (number k)

below : (p : ℕ) (k : ℤ) (f : Assignment) (x : ℕ) → x < p → filled p k f x ≡ number k
below p k f x h = cond-true (ltb x p) (number k) (f x) (lt-ltb x p h)

above : (p : ℕ) (k : ℤ) (f : Assignment) (x : ℕ) → p ≤ x → filled p k f x ≡ f x
above p k f x h = cond-false (ltb x p) (number k) (f x) (le-ltb x p h)

parted_here : (p : ℕ) (k : ℤ) (x : ℕ) → p ≤ x → filled p k (parted k x) x ≡ pair (number k) (number k)
parted_here p k x h = above p k (parted k x) x h ∙ cond-true (eqb x x) _ _ (eq-eqb x x refl)

parted_there : (p : ℕ) (k : ℤ) (x y : ℕ) → y < x → filled p k (parted k x) y ≡ number k
parted_there p k x y h =
    cond_both (ltb y p) (number k) (parted k x y) (λ v. v ≡ number k) (λ e. refl) (λ e. cond-false (eqb y x) _ _ (ne_eqb y x (λ q. omega arith)))

module _ (s : Solutions) (p : ℕ) (k : ℤ) (fixed : (x : ℕ) → x < p → Always s (λ σ. σ x ≡ number k)) (free : (f : Assignment) → s (filled p k f) ≡ true) where
  differs : (x y : ℕ) → p ≤ x → y < x → Always s (λ σ. σ x ≡ σ y) → ⊥
  differs x y h l same =
      let a = parted_here p k x h in
      let b = parted_there p k x y l in
      let c = same (filled p k (parted k x)) (free (parted k x)) in
      let z : ◌≡◌ {A = ℕ} 0 1 = cc in omega arith

  lowest : (x y : ℕ) → p ≤ x → Always s (λ σ. σ x ≡ σ y) → x ≤ y
  lowest x y h same = ⊎_elim (λ l. absurd (differs x y h l same)) (λ l. l) (cases_lt y x)

  says : (x : ℕ) → x < 256 → Says s (texts p k) x
  says x l =
      ⊎_elim (λ h. a_number k (fixed x h) (cond-true (ltb x p) (signed_decimal k) (95 ∷ decimal x) (lt-ltb x p h)))
      (λ h.
      a_name x (λ w. (filled p k (λ v. w), (free (λ v. w), above p k (λ v. w) x h))) (λ σ e. refl) (λ y m same. lowest x y h same)
      (cond-false (ltb x p) (signed_decimal k) (95 ∷ decimal x) (le-ltb x p h)))
      (cases_lt x p)

admitted : (n : ℕ) (σ : Assignment) → all_admitted trees n σ ≡ true
unfolding all_admitted
admitted zero σ = refl
admitted (suc n) σ = admitted n σ

-- told that variable 0 is the number k, and that variable 1 is equal to it
abbrev one : ℕ → List Condition
one k = record { code = 1; k = pos k; vars = 0 ∷ [] } ∷ []

abbrev two : ℕ → List Condition
two k = record { code = 1; k = pos k; vars = 0 ∷ [] } ∷ record { code = 0; k = pos 0; vars = 0 ∷ 1 ∷ [] } ∷ []

held : (told : List Condition) (σ : Assignment) → stored over_trees told σ ≡ true → all_hold trees told σ ≡ true
held told σ e = (and_parts (all_admitted trees 256 σ) (all_hold trees told σ) e).1

solved : (told : List Condition) (σ : Assignment) → all_hold trees told σ ≡ true → stored over_trees told σ ≡ true
solved told σ e = and_from (all_admitted trees 256 σ) (all_hold trees told σ) (admitted 256 σ) e

one_fixed : (k x : ℕ) → x < 1 → Always (stored over_trees (one k)) (λ σ. σ x ≡ number (pos k))
one_fixed k zero l σ e = equal_true (σ 0) (number (pos k)) (and_parts _ _ (held (one k) σ e)).0
one_fixed k (suc x) l σ e = let z : ⊥ = omega arith in absurd z

one_says : (k x : ℕ) → x < 256 → Says (stored over_trees (one k)) (texts 1 (pos k)) x
one_says k = says (stored over_trees (one k)) 1 (pos k) (one_fixed k) (λ f. solved (one k) (filled 1 (pos k) f) (and_from _ _ (equal_refl (number (pos k))) refl))

two_fixed : (k x : ℕ) → x < 2 → Always (stored over_trees (two k)) (λ σ. σ x ≡ number (pos k))
two_fixed k zero l σ e = equal_true (σ 0) (number (pos k)) (and_parts _ _ (held (two k) σ e)).0
two_fixed k (suc zero) l σ e =
    let h = and_parts _ _ (held (two k) σ e) in
    let a = equal_true (σ 0) (number (pos k)) h.0 in
    let b = equal_true (σ 0) (σ 1) (and_parts _ _ h.1).0 in cc
two_fixed k (suc (suc x)) l σ e = let z : ⊥ = omega arith in absurd z

two_says : (k x : ℕ) → x < 256 → Says (stored over_trees (two k)) (texts 2 (pos k)) x
two_says k =
    let same = equal_refl (number (pos k)) in
    says (stored over_trees (two k)) 2 (pos k) (two_fixed k) (λ f. solved (two k) (filled 2 (pos k) f) (and_from _ _ same (and_from _ _ same refl)))

-- their lines
pub one_line : (k : ℕ) (line : String) → codes line ≡ line_of (texts 1 (pos k)) 1 → LineIs over_trees 1 (one k) line
one_line k line e = record { text = texts 1 (pos k); says = one_says k; joins = e }

pub two_line : (k : ℕ) (line : String) → codes line ≡ line_of (texts 2 (pos k)) 2 → LineIs over_trees 2 (two k) line
two_line k line e = record { text = texts 2 (pos k); says = two_says k; joins = e }

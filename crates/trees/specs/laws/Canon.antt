-- The assignment that a record gives is its most general solution. Assumes nothing.
use Rattle.std.specs.Prelude.{◌≡◌, ℕ, zero, suc, ◌+◌, ◌-◌, ◌<◌, ◌≤◌, Bool, true, false, cond, ℤ, pos, negsuc, nat_le, unsigned_abs, refl}
use Rattle.std.proofs.Common.{sym, ◌∙◌}
use Rattle.std.proofs.Math.Path.{ap}
use Rattle.std.proofs.Math.Logic.{⊎_elim}
use native.Mathlib.Omega.{arith}
use Rattle.std.proofs.lemmas.Bool.{le-leb, lt-leb, cond-true, cond-false, cases_lt, and_parts, both_ways}
use Rattle.bank.specs.Kinds.{Value, number, pair, Assignment}
use Rattle.trees.specs.declared.cells.Form.{Form}
use Rattle.trees.specs.declared.cells.Form.TheVariants.{Free, Number, Pair}
use Rattle.trees.specs.Stores.{Store, root_of_lem, form_at_lem, form_of, Fits, solves, Solves, Formed, Shaped}
use Rattle.trees.specs.laws.Solves.{solves_true}
use Rattle.trees.specs.laws.Shapes.{formed}
use Rattle.trees.specs.Values.{grow, value, given, ready, deep, Sound}
use Rattle.trees.specs.laws.Depths.{given_solves}
use Rattle.trees.specs.Texts.{show}
use Rattle.trees.specs.laws.Decode.{Modest, same_show}

-- a value with each number above 1000 replaced by the value of the class that it stands for
unfoldable pub filled : Assignment → Value → Value
filled σ (number (pos n)) = cond (nat_le n 1000) (number (pos n)) (σ (n - 1001))
filled σ (number (negsuc n)) = number (negsuc n)
filled σ (pair u v) = pair (filled σ u) (filled σ v)

filled_low : (σ : Assignment) (n : ℕ) → n ≤ 1000 → filled σ (number (pos n)) ≡ number (pos n)
unfolding filled
filled_low σ n h = cond-true (nat_le n 1000) (number (pos n)) (σ (n - 1001)) (le-leb n 1000 h)

filled_high : (σ : Assignment) (n : ℕ) → 1000 < n → filled σ (number (pos n)) ≡ σ (n - 1001)
unfolding filled
filled_high σ n h = cond-false (nat_le n 1000) (number (pos n)) (σ (n - 1001)) (lt-leb n 1000 h)

pub filled_root : (σ : Assignment) (n : ℕ) → filled σ (number (pos (1001 + n))) ≡ σ n
filled_root σ n = let e : 1001 + n - 1001 ≡ n = omega arith in filled_high σ (1001 + n) (omega arith) ∙ ap σ e

pub filled_small : (σ : Assignment) (k : ℤ) → unsigned_abs k ≤ 1000 → filled σ (number k) ≡ number k
unfolding filled
filled_small σ (pos n) h = filled_low σ n h
filled_small σ (negsuc n) h = refl

-- one level of a value, filled
filled_grown : (σ τ : Assignment) (below : ℕ → Value) (root : ℕ) (test : ℕ → Bool) (f : Form) → Formed 256 f → ready test f ≡ true
    → ((x : ℕ) → x < 256 → test x ≡ true → filled σ (below x) ≡ τ x) → (f ≡ Free → filled σ (number (pos (1001 + root))) ≡ τ root) → (v : Value) → Fits τ f v → (f ≡ Free → v ≡ τ root) → filled σ (grow below root f) ≡ v
unfolding filled
filled_grown σ τ below root test Free F t ih free v h at = free refl ∙ sym (at refl)
filled_grown σ τ below root test (Number k) F t ih free v h at = filled_small σ k F ∙ sym h
filled_grown σ τ below root test (Pair x y) F t ih free v h at =
    let p = and_parts (test x) (test y) t in
    ap (λ (w : Value). pair w (filled σ (below y))) (ih x F.0 p.0) ∙ ap (pair (τ x)) (ih y F.1 p.1) ∙ sym h

-- values are filled to a solution, where the values of free classes are
filled_value : (r : Store) (σ τ : Assignment) → Shaped r → Solves r τ → ((x : ℕ) → x < 256 → form_of r x ≡ Free → filled σ (number (pos (1001 + root_of_lem r x))) ≡ τ (root_of_lem r x))
    → (n x : ℕ) → x < 256 → deep r n x ≡ true → filled σ (value r n x) ≡ τ x
unfolding value deep
filled_value r σ τ S o free zero x l d = absurd (both_ways false refl d)
filled_value r σ τ S o free (suc n) x l d = filled_grown σ τ (value r n) (root_of_lem r x) (deep r n) (form_of r x) (formed r S x l) d
    (λ y k e. filled_value r σ τ S o free n y k e) (free x l) (τ x) (o.form x l) (λ e. o.same x l)

-- every solution fills the given one
pub general : (r : Store) → Sound r → (σ : Assignment) → Solves r σ → (x : ℕ) → x < 256 → filled σ (given r x) ≡ σ x
unfolding given
general r S σ o x l = filled_value r σ σ S.shaped o (λ y k e. filled_root σ (root_of_lem r y)) 256 x l (S.levels x l)

-- the given values are modest
modest_grown : (below : ℕ → Value) (root : ℕ) (f : Form) → root < 256 → Formed 256 f → ((x : ℕ) → x < 256 → Modest (below x)) → Modest (grow below root f)
modest_grown below root Free l F ih = omega arith
modest_grown below root (Number (pos n)) l F ih = omega arith
modest_grown below root (Number (negsuc n)) l F ih = omega arith
modest_grown below root (Pair x y) l F ih = (ih x F.0, ih y F.1)

modest_value : (r : Store) → Shaped r → (n x : ℕ) → x < 256 → Modest (value r n x)
unfolding value
modest_value r S zero x l = omega arith
modest_value r S (suc n) x l = modest_grown (value r n) (root_of_lem r x) (form_of r x) (omega (arith, S.low x l)) (formed r S x l) (modest_value r S n)

pub modest : (r : Store) → Sound r → (x : ℕ) → x < 256 → Modest (given r x)
unfolding given
modest r S x l = modest_value r S.shaped 256 x l

-- two variables that print alike have equal values in every solution
pub alike_values : (r : Store) → Sound r → (x y : ℕ) → x < 256 → y < 256 → show (given r x) ≡ show (given r y) → (σ : Assignment) → solves r σ ≡ true → σ x ≡ σ y
alike_values r S x y lx ly e σ t =
    let o = solves_true r σ t in
    let q = same_show (given r x) (given r y) (modest r S x lx) (modest r S y ly) e in
    sym (general r S σ o x lx) ∙ ap (filled σ) q ∙ general r S σ o y ly

pub alike_texts : (r : Store) → Sound r → (x y : ℕ) → ((σ : Assignment) → solves r σ ≡ true → σ x ≡ σ y) → show (given r x) ≡ show (given r y)
alike_texts r S x y h = ap show (h (given r) (given_solves r S))

-- a free class
number_of : Value → ℤ
number_of (number z) = z
number_of (pair u v) = pos 0

nat_of : ℤ → ℕ
nat_of (pos n) = n
nat_of (negsuc n) = 0

same_pos : (m n : ℕ) → number (pos m) ≡ number (pos n) → m ≡ n
unfolding number_of nat_of
same_pos m n e = ap (λ (v : Value). nat_of (number_of v)) e

free_grown : (below : ℕ → Value) (root t : ℕ) (f : Form) → Formed 256 f → grow below root f ≡ number (pos (1001 + t)) → root ≡ t
free_grown below root t Free F e = let q = same_pos (1001 + root) (1001 + t) e in omega arith
free_grown below root t (Number (pos n)) F e = let q = same_pos n (1001 + t) e in absurd (omega arith)
free_grown below root t (Number (negsuc n)) F e = let z : ◌≡◌ {A = ℕ} 0 1 = cc in absurd (omega arith)
free_grown below root t (Pair x y) F e = let z : ◌≡◌ {A = ℕ} 0 1 = cc in absurd (omega arith)

free_value : (r : Store) → Shaped r → (n x t : ℕ) → x < 256 → value r (suc n) x ≡ number (pos (1001 + t)) → root_of_lem r x ≡ t
unfolding value
free_value r S n x t l e = free_grown (value r n) (root_of_lem r x) t (form_of r x) (formed r S x l) e

pub free_low : (r : Store) → Sound r → (x t : ℕ) → x < 256 → given r x ≡ number (pos (1001 + t)) → t ≤ x
unfolding given
free_low r S x t l e = let q = free_value r S.shaped 255 x t l e in omega (arith, S.shaped.low x l)

free_root_value : (r : Store) → Shaped r → (n x : ℕ) → x < 256 → form_of r x ≡ Free → value r (suc n) (root_of_lem r x) ≡ number (pos (1001 + root_of_lem r x))
unfolding value
free_root_value r S n x l e =
    ap (λ (k : ℕ). grow (value r n) k (form_of r (root_of_lem r x))) (S.top x l)
    ∙ ap (grow (value r n) (root_of_lem r x)) (ap (form_at_lem r) (S.top x l) ∙ e)

pub free_root : (r : Store) → Sound r → (x : ℕ) → x < 256 → form_of r x ≡ Free → given r (root_of_lem r x) ≡ number (pos (1001 + root_of_lem r x))
unfolding given
free_root r S x l e = free_root_value r S.shaped 255 x l e

-- two records with the same solutions
module _ (r s : Store) (R : Sound r) (S : Sound s) (r_solves : Solves s (given r)) (s_solves : Solves r (given s)) where
  by_value : (t : ℕ) → t < 256 → (w : Value) → given r t ≡ w → filled (given s) w ≡ number (pos (1001 + t)) → w ≡ number (pos (1001 + t))
  unfolding filled
  by_value t l (pair u v) q e = let z : ◌≡◌ {A = ℕ} 0 1 = cc in absurd (omega arith)
  by_value t l (number (negsuc n)) q e = let z : ◌≡◌ {A = ℕ} 0 1 = cc in absurd (omega arith)
  by_value t l (number (pos n)) q e = ⊎_elim
      (λ (big : 1000 < n).
      let k = n - 1001 in
      let back : n ≡ 1001 + k = omega arith in
      let up : k ≤ t = free_low r R t k l (q ∙ ap (λ (m : ℕ). number (pos m)) back) in
      let down : t ≤ k = free_low s S k t (omega arith) (sym (filled_high (given s) n big) ∙ e) in
      let same : n ≡ 1001 + t = omega arith in
      ap (λ (m : ℕ). number (pos m)) same)
      (λ (few : n ≤ 1000). let c = same_pos n (1001 + t) (sym (filled_low (given s) n few) ∙ e) in absurd (omega arith))
      (cases_lt 1000 n)

  -- a free root of one is a free root of the other
  both_free : (t : ℕ) → t < 256 → given s t ≡ number (pos (1001 + t)) → given r t ≡ number (pos (1001 + t))
  both_free t l e = by_value t l (given r t) refl (general r R (given s) s_solves t l ∙ e)

  kept : (x : ℕ) → x < 256 → form_of s x ≡ Free → filled (given r) (number (pos (1001 + root_of_lem s x))) ≡ given s (root_of_lem s x)
  kept x l e =
      let f = free_root s S x l e in
      filled_root (given r) (root_of_lem s x) ∙ both_free (root_of_lem s x) (omega (arith, S.shaped.low x l)) f ∙ sym f

  filled_given : (x : ℕ) → x < 256 → filled (given r) (given s x) ≡ given s x
  unfolding given
  filled_given x l = filled_value s (given r) (given s) S.shaped (solves_true s (given s) (given_solves s S)) kept 256 x l (S.levels x l)

  given_same : (x : ℕ) → x < 256 → given r x ≡ given s x
  given_same x l = sym (general s S (given r) r_solves x l) ∙ filled_given x l

-- records with equal solutions print equal texts
pub same_texts : (r s : Store) → Sound r → Sound s → ((σ : Assignment) → solves r σ ≡ solves s σ) → (x : ℕ) → x < 256 → show (given r x) ≡ show (given s x)
same_texts r s R S e x l = ap show (given_same r s R S
    (solves_true s (given r) (sym (e (given r)) ∙ given_solves r R))
    (solves_true r (given s) (e (given s) ∙ given_solves s S)) x l)

-- The solutions of a record as tests and as facts. Assumes nothing.
use Rattle.std.specs.Prelude.{◌≡◌, ℕ, zero, suc, ◌<◌, Bool, true, false, ◌&&◌, ◌≢◌, refl}
use Rattle.std.proofs.Common.{sym, ap, subst, ◌∙◌, ⊎_elim, arith}
use Rattle.std.proofs.lemmas.Bool.{and_from, and_parts, cases_eq, both_ways}
use Rattle.std.proofs.lemmas.Bool.Decides.{Decides-int_eq}
use Rattle.bank.specs.Kinds.{Value, number, pair, Assignment}
use Rattle.trees.specs.declared.cells.Form.{Form}
use Rattle.trees.specs.declared.cells.Form.TheVariants.{Free, Number, Pair}
use Rattle.trees.specs.Kind.{equal}
use Rattle.trees.specs.Stores.{Store, root_of_lem, form_of, fits, agrees, solves, Fits, Solves}

pub equal_true : (u v : Value) → equal u v ≡ true → u ≡ v
unfolding equal
equal_true (number a) (number b) e = ap number ((Decides-int_eq a b).0 e)
equal_true (number a) (pair c d) e = absurd (both_ways false refl e)
equal_true (pair a b) (number c) e = absurd (both_ways false refl e)
equal_true (pair a b) (pair c d) e =
    let p = and_parts (equal a c) (equal b d) e in
    ap (λ x. pair x b) (equal_true a c p.0) ∙ ap (pair c) (equal_true b d p.1)

pub equal_refl : (u : Value) → equal u u ≡ true
unfolding equal
equal_refl (number a) = (Decides-int_eq a a).1 refl
equal_refl (pair a b) = and_from (equal a a) (equal b b) (equal_refl a) (equal_refl b)

pub equal_from : (u v : Value) → u ≡ v → equal u v ≡ true
equal_from u v e = subst (λ (x : Value). equal u x ≡ true) e (equal_refl u)

pub fits_true : (σ : Assignment) (f : Form) (v : Value) → fits σ f v ≡ true → Fits σ f v
fits_true σ Free v e = tt
fits_true σ (Number k) v e = equal_true v (number k) e
fits_true σ (Pair x y) v e = equal_true v (pair (σ x) (σ y)) e

pub fits_from : (σ : Assignment) (f : Form) (v : Value) → Fits σ f v → fits σ f v ≡ true
fits_from σ Free v h = refl
fits_from σ (Number k) v h = equal_from v (number k) h
fits_from σ (Pair x y) v h = equal_from v (pair (σ x) (σ y)) h

-- two tests are equal that hold together
pub same_test : (x y : Bool) → (x ≡ true → y ≡ true) → (y ≡ true → x ≡ true) → x ≡ y
same_test true true f g = refl
same_test true false f g = sym (f refl)
same_test false true f g = g refl
same_test false false f g = refl

pub never_true : (x : Bool) → (x ≢ true) → x ≡ false
never_true true h = absurd (h refl)
never_true false h = refl

here : Store → Assignment → ℕ → Bool
here r σ a = equal (σ a) (σ (root_of_lem r a)) && fits σ (form_of r a) (σ a)

agrees_from : (r : Store) (σ : Assignment) (n : ℕ) → ((a : ℕ) → a < n → here r σ a ≡ true) → agrees r n σ ≡ true
unfolding agrees here
agrees_from r σ zero h = refl
agrees_from r σ (suc n) h = and_from (equal (σ n) (σ (root_of_lem r n)) && fits σ (form_of r n) (σ n)) (agrees r n σ) (h n (omega arith)) (agrees_from r σ n (λ a l. h a (omega arith)))

agrees_at : (r : Store) (σ : Assignment) (n : ℕ) → agrees r n σ ≡ true → (a : ℕ) → a < n → here r σ a ≡ true
unfolding agrees here
agrees_at r σ zero e a l = let z : ⊥ = omega arith in absurd z
agrees_at r σ (suc n) e a l =
    let parts = and_parts (equal (σ n) (σ (root_of_lem r n)) && fits σ (form_of r n) (σ n)) (agrees r n σ) e in
    ⊎_elim (λ (q : a ≡ n). ap (here r σ) q ∙ parts.0) (λ ne. agrees_at r σ n parts.1 a (omega arith)) (cases_eq a n)

pub solves_true : (r : Store) (σ : Assignment) → solves r σ ≡ true → Solves r σ
unfolding solves here
solves_true r σ t = record {
  same = λ a h. equal_true (σ a) (σ (root_of_lem r a)) (and_parts (equal (σ a) (σ (root_of_lem r a))) (fits σ (form_of r a) (σ a)) (agrees_at r σ 256 t a h)).0;
  form = λ a h. fits_true σ (form_of r a) (σ a) (and_parts (equal (σ a) (σ (root_of_lem r a))) (fits σ (form_of r a) (σ a)) (agrees_at r σ 256 t a h)).1;
}

pub solves_from : (r : Store) (σ : Assignment) → Solves r σ → solves r σ ≡ true
unfolding solves here
solves_from r σ S = agrees_from r σ 256 (λ a h.
    and_from (equal (σ a) (σ (root_of_lem r a))) (fits σ (form_of r a) (σ a)) (equal_from (σ a) (σ (root_of_lem r a)) (S.same a h)) (fits_from σ (form_of r a) (σ a) (S.form a h)))

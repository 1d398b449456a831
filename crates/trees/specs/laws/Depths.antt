-- Values made from the bottom up. Assumes nothing.
use Rattle.std.specs.Prelude.{◌≡◌, ℕ, zero, suc, ◌-◌, ◌<◌, ◌≤◌, Bool, true, false, refl}
use Rattle.std.proofs.Common.{sym, ap, subst, ◌∙◌, ⊎_elim, arith}
use Rattle.std.proofs.lemmas.Bool.{and_from, and_parts, both_ways, cases_lt}
use Rattle.bank.specs.Kinds.{Value, pair}
use Rattle.trees.specs.declared.cells.Form.{Form}
use Rattle.trees.specs.declared.cells.Form.TheVariants.{Free, Number, Pair}
use Rattle.trees.specs.Stores.{Store, root_of_lem, form_at_lem, form_of, Fits, solves, Solves, Shaped}
use Rattle.trees.specs.Joins.{flat}
use Rattle.trees.specs.laws.Solves.{solves_from}
use Rattle.trees.specs.Values.{grow, value, given, ready, deep, Sound}

pub ready_more : (p q : ℕ → Bool) (f : Form) → ((x : ℕ) → p x ≡ true → q x ≡ true) → ready p f ≡ true → ready q f ≡ true
ready_more p q Free h e = refl
ready_more p q (Number k) h e = refl
ready_more p q (Pair x y) h e =
    let parts = and_parts (p x) (p y) e in
    and_from (q x) (q y) (h x parts.0) (h y parts.1)

pub flat_ready : (p : ℕ → Bool) (f : Form) → flat f ≡ true → ready p f ≡ true
flat_ready p Free e = refl
flat_ready p (Number k) e = refl
flat_ready p (Pair x y) e = absurd (both_ways false refl e)

pub deep_more : (r : Store) (n x : ℕ) → deep r n x ≡ true → deep r (suc n) x ≡ true
unfolding deep
deep_more r zero x e = absurd (both_ways false refl e)
deep_more r (suc n) x e = ready_more (deep r n) (deep r (suc n)) (form_of r x) (deep_more r n) e

pub deep_le : (r : Store) (m n x : ℕ) → m ≤ n → deep r m x ≡ true → deep r n x ≡ true
deep_le r m zero x l e = subst (λ (k : ℕ). deep r k x ≡ true) (omega arith) e
deep_le r m (suc n) x l e = ⊎_elim
    (λ (h : m < suc n). deep_more r n x (deep_le r m n x (omega arith) e))
    (λ g. let q : m ≡ suc n = omega arith in subst (λ (k : ℕ). deep r k x ≡ true) q e)
    (cases_lt m (suc n))

pub free_deep : (r : Store) (n x : ℕ) → form_of r x ≡ Free → deep r (suc n) x ≡ true
unfolding deep
free_deep r n x e = ap (ready (deep r n)) e

same_grown : (p q : ℕ → Value) (root : ℕ) (test : ℕ → Bool) (f : Form) → ((x : ℕ) → test x ≡ true → p x ≡ q x) → ready test f ≡ true → grow p root f ≡ grow q root f
same_grown p q root test Free h e = refl
same_grown p q root test (Number k) h e = refl
same_grown p q root test (Pair x y) h e =
    let parts = and_parts (test x) (test y) e in
    ap (λ v. pair v (p y)) (h x parts.0) ∙ ap (pair (q x)) (h y parts.1)

-- more levels change nothing
pub stable : (r : Store) (n x : ℕ) → deep r n x ≡ true → value r (suc n) x ≡ value r n x
unfolding value deep
stable r zero x e = absurd (both_ways false refl e)
stable r (suc n) x e = same_grown (value r (suc n)) (value r n) (root_of_lem r x) (deep r n) (form_of r x) (stable r n) e

grown_fits : (σ : ℕ → Value) (below : ℕ → Value) (root : ℕ) (test : ℕ → Bool) (f : Form) → ((x : ℕ) → test x ≡ true → σ x ≡ below x) → ready test f ≡ true → Fits σ f (grow below root f)
grown_fits σ below root test Free h e = tt
grown_fits σ below root test (Number k) h e = refl
grown_fits σ below root test (Pair x y) h e =
    let parts = and_parts (test x) (test y) e in
    sym (ap (λ v. pair v (σ y)) (h x parts.0) ∙ ap (pair (below x)) (h y parts.1))

value_solves : (r : Store) (n : ℕ) → Shaped r → ((x : ℕ) → x < 256 → deep r (suc n) x ≡ true) → Solves r (value r (suc n))
unfolding value deep
value_solves r n S all = record {
  same = λ a l. ap (λ (k : ℕ). grow (value r n) k (form_of r a)) (sym (S.top a l)) ∙ ap (λ (k : ℕ). grow (value r n) (root_of_lem r (root_of_lem r a)) (form_at_lem r k)) (sym (S.top a l));
  form = λ a l. grown_fits (value r (suc n)) (value r n) (root_of_lem r a) (deep r n) (form_of r a) (stable r n) (all a l);
}

pub given_solves : (r : Store) → Sound r → solves r (given r) ≡ true
unfolding given
given_solves r S = solves_from r (value r 256) (value_solves r 255 S.shaped S.levels)

-- the first level of a value
pub value_step : (r : Store) (n x : ℕ) → deep r n x ≡ true → value r n x ≡ grow (value r (n - 1)) (root_of_lem r x) (form_of r x)
unfolding value deep
value_step r zero x e = absurd (both_ways false refl e)
value_step r (suc n) x e = let h : suc n - 1 ≡ n = omega arith in ap (λ (k : ℕ). grow (value r k) (root_of_lem r x) (form_of r x)) (sym h)

pub deep_step : (r : Store) (n x : ℕ) → deep r n x ≡ true → (0 < n) × (ready (deep r (n - 1)) (form_of r x) ≡ true)
unfolding deep
deep_step r zero x e = absurd (both_ways false refl e)
deep_step r (suc n) x e = let h : suc n - 1 ≡ n = omega arith in (omega arith, subst (λ (k : ℕ). ready (deep r k) (form_of r x) ≡ true) (sym h) e)

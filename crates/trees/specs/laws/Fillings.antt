-- Every filling of the given values is a solution, so a text says what it should. Assumes nothing.
use Rattle.std.specs.Prelude.{◌≡◌, ℕ, ◌+◌, ◌-◌, ◌<◌, ◌≤◌, true, ◌∷◌, ℤ, pos, negsuc, decimal, nat_le, unsigned_abs, refl}
use Rattle.std.proofs.Common.{sym, subst, ◌∙◌, arith}
use Rattle.std.proofs.Math.Path.{ap}
use Rattle.std.specs.Fmt.{signed_decimal}
use Rattle.std.proofs.lemmas.Bool.{le-leb, lt-leb, cond-true, cond-false}
use Rattle.bank.specs.Kinds.{Value, number, Assignment}
use Rattle.bank.specs.Views.{Always}
use Rattle.trees.specs.declared.cells.Form.{Form}
use Rattle.trees.specs.declared.cells.Form.TheVariants.{Free, Number, Pair}
use Rattle.trees.specs.Stores.{Store, root_of_lem, form_of, Fits, solves, Formed}
use Rattle.trees.specs.laws.Shapes.{formed}
use Rattle.trees.specs.laws.Solves.{solves_true, solves_from}
use Rattle.trees.specs.Values.{given, Sound}
use Rattle.trees.specs.laws.Depths.{given_solves}
use Rattle.trees.specs.Texts.{show}
use Rattle.trees.specs.laws.Canon.{filled, filled_small, filled_root, free_root, free_low}
use Rattle.trees.specs.Says.{Says, a_number, a_pair, a_name}

filled_fits : (σ τ : Assignment) (f : Form) (v : Value) → Formed 256 f → Fits τ f v → Fits (λ x. filled σ (τ x)) f (filled σ v)
unfolding filled
filled_fits σ τ Free v F h = tt
filled_fits σ τ (Number k) v F h = ap (filled σ) h ∙ filled_small σ k F
filled_fits σ τ (Pair x y) v F h = ap (filled σ) h

-- any filling of the given values
pub filled_solves : (r : Store) → Sound r → (σ : Assignment) → solves r (λ x. filled σ (given r x)) ≡ true
filled_solves r S σ =
    let o = solves_true r (given r) (given_solves r S) in
    solves_from r (λ x. filled σ (given r x)) (record {
      same = λ a l. ap (filled σ) (o.same a l);
      form = λ a l. filled_fits σ (given r) (form_of r a) (given r a) (formed r S.shaped a l) (o.form a l);
    })

pub show_small : (k : ℤ) → unsigned_abs k ≤ 1000 → show (number k) ≡ signed_decimal k
unfolding show
show_small (pos n) h = cond-true (nat_le n 1000) (decimal n) (95 ∷ decimal (n - 1001)) (le-leb n 1000 h)
show_small (negsuc n) h = refl

pub show_large : (n : ℕ) → show (number (pos (1001 + n))) ≡ 95 ∷ decimal n
unfolding show
show_large n =
    let e : 1001 + n - 1001 ≡ n = omega arith in
    cond-false (nat_le (1001 + n) 1000) (decimal (1001 + n)) (95 ∷ decimal (1001 + n - 1001)) (lt-leb (1001 + n) 1000 (omega arith)) ∙ ap (λ (k : ℕ). 95 ∷ decimal k) e

module _ (r : Store) (S : Sound r) (x : ℕ) (l : x < 256) where
  always : (f : Form) → form_of r x ≡ f → Always (solves r) (λ σ. Fits σ f (σ x))
  always f e σ t = subst (λ (g : Form). Fits σ g (σ x)) e ((solves_true r σ t).form x l)

  ours : (f : Form) → form_of r x ≡ f → Fits (given r) f (given r x)
  ours f e = always f e (given r) (given_solves r S)

  is_root : Always (solves r) (λ σ. σ x ≡ σ (root_of_lem r x))
  is_root σ t = (solves_true r σ t).same x l

  by_form : (f : Form) → form_of r x ≡ f → Formed 256 f → Says (solves r) (λ v. show (given r v)) x
  unfolding show
  by_form (Number k) e F = a_number k (always (Number k) e) (ap show (ours (Number k) e) ∙ show_small k F)
  by_form (Pair y z) e F = a_pair y z F.0 F.1 (always (Pair y z) e) (ap show (ours (Pair y z) e))
  by_form Free e F =
      let root = root_of_lem r x in
      let own : given r x ≡ number (pos (1001 + root)) = is_root (given r) (given_solves r S) ∙ free_root r S x l e in
      a_name root
      (λ w. ((λ v. filled (λ u. w) (given r v)), (filled_solves r S (λ u. w), ap (filled (λ u. w)) own ∙ filled_root (λ u. w) root)))
      is_root
      (λ y k h. free_low r S y root k (sym (h (given r) (given_solves r S)) ∙ own))
      (ap show own ∙ show_large root)

  pub says : Says (solves r) (λ v. show (given r v)) x
  says = by_form (form_of r x) refl (formed r S.shaped x l)

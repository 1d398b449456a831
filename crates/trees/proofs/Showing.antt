-- The text of a variable, by the form of its class. Assumes nothing.
use Rattle.std.proofs.Common.{◌≡◌, ℕ, ◌-◌, ◌<◌, ◌≤◌, true, [], ◌∷◌, ◌++◌, ℤ, pos, negsuc, nat_abs, decimal, ap, ◌∙◌, subst, arith, w32, SFits}
use Rattle.std.specs.Fmt.{signed_decimal}
use Rattle.std.proofs.lemmas.Bool.{and_parts}
use Rattle.trees.specs.declared.cells.Form.{Form}
use Rattle.trees.specs.declared.cells.Form.TheVariants.{Free, Number, Pair}
use Rattle.trees.specs.Stores.{Store, root_of_lem, form_of, Formed, Shaped}
use Rattle.trees.specs.Values.{grow, value, deep, ready}
use Rattle.trees.specs.laws.Shapes.{formed}
use Rattle.trees.specs.laws.Depths.{value_step, deep_step}
use Rattle.trees.specs.Texts.{show}
use Rattle.trees.specs.laws.Fillings.{show_small, show_large}

module _ (r : Store) (n x : ℕ) (d : deep r n x ≡ true) where
  by_form : (f : Form) → form_of r x ≡ f → show (value r n x) ≡ show (grow (value r (n - 1)) (root_of_lem r x) f)
  by_form f e = ap show (value_step r n x d ∙ ap (grow (value r (n - 1)) (root_of_lem r x)) e)

  pub show_free : form_of r x ≡ Free → show (value r n x) ≡ 95 ∷ decimal (root_of_lem r x)
  show_free e = by_form Free e ∙ show_large (root_of_lem r x)

  pub show_number : (k : ℤ) → form_of r x ≡ Number k → nat_abs k ≤ 1000 → show (value r n x) ≡ signed_decimal k
  show_number k e h = by_form (Number k) e ∙ show_small k h

  pub show_pair : (a b : ℕ) → form_of r x ≡ Pair a b → show (value r n x) ≡ 40 ∷ (show (value r (n - 1) a) ++ (46 ∷ (show (value r (n - 1) b) ++ (41 ∷ []))))
  unfolding show
  show_pair a b e = by_form (Pair a b) e

-- the sides of a pair
pub sides_below : (r : Store) (n x a b : ℕ) → Shaped r → x < 256 → deep r n x ≡ true → form_of r x ≡ Pair a b → ((a < 256) × (deep r (n - 1) a ≡ true)) × ((b < 256) × (deep r (n - 1) b ≡ true))
sides_below r n x a b S l d e =
    let within = subst (Formed 256) e (formed r S x l) in
    let levels = and_parts (deep r (n - 1) a) (deep r (n - 1) b) (subst (λ (f : Form). ready (deep r (n - 1)) f ≡ true) e (deep_step r n x d).1) in
    ((within.0, levels.0), (within.1, levels.1))

pub small_fits : (k : ℤ) → nat_abs k ≤ 1000 → SFits w32 k
small_fits (pos n) h = record { sfits = omega arith }
small_fits (negsuc n) h = record { sfits = omega arith }

-- What is kept of a record is a proposition, so it comes out of a truncation.
use Rattle.std.specs.Prelude.{ℕ, refl}
use Rattle.std.proofs.Math.Logic.{∥∥₁_elim}
use Rattle.std.proofs.Math.Bridge.{le_prop}
use Rattle.std.specs.Coded.{coded_ℕ, coded_bool}
use denote.Struct.Props.{≡_prop}
use Rattle.trees.specs.declared.cells.Form.{Form}
use Rattle.trees.specs.declared.cells.Form.TheVariants.{Free, Number, Pair}
use Rattle.trees.specs.Stores.{Store, form_of, Formed, Shaped}
use Rattle.trees.specs.Values.{Sound}

pub formed_prop : (n : ℕ) (f : Form) → IsProp (Formed n f)
formed_prop n Free p q = refl
formed_prop n (Number k) p q = le_prop p q
formed_prop n (Pair x y) p q = λ i. (le_prop p.0 q.0 i, le_prop p.1 q.1 i)

shaped_prop : (r : Store) → IsProp (Shaped r)
shaped_prop r p q = λ i. record {
  used = le_prop p.used q.used i;
  low = λ a h. le_prop (p.low a h) (q.low a h) i;
  top = λ a h. ≡_prop coded_ℕ _ _ (p.top a h) (q.top a h) i;
  named = λ a h. formed_prop r.used (form_of r a) (p.named a h) (q.named a h) i;
}

pub sound_prop : (r : Store) → IsProp (Sound r)
sound_prop r p q = λ i. record {
  shaped = shaped_prop r p.shaped q.shaped i;
  levels = λ x h. ≡_prop coded_bool _ _ (p.levels x h) (q.levels x h) i;
}

pub sound_out : (r : Store) → ∥ Sound r ∥₁ → Sound r
sound_out r t = ∥∥₁_elim t (sound_prop r) (λ s. s)

-- That a record is sound has one proof at most, so it comes out of a truncation. Assumes nothing.
use Rattle.std.proofs.Math.Logic.{∥∥₁_elim}
use Rattle.std.proofs.Math.Bridge.{le_prop}
use Rattle.std.specs.Coded.{coded_ℕ, coded_ℤ}
use denote.Struct.Props.{≡_prop, props}
use Rattle.std.specs.Prelude.{ℤ, ◌≤ℤ◌}
use Rattle.semitones.specs.Cells.{Record, Sound}

≤ℤ_prop : {x y : ℤ} → IsProp (x ≤ℤ y)
≤ℤ_prop {x = x} {y = y} = hlevel props

sound_prop : (r : Record) → IsProp (Sound r)
sound_prop r p q = λ i. record {
  few = le_prop p.few q.few i;
  low = λ a. le_prop (p.low a) (q.low a) i;
  top = λ a. ≡_prop coded_ℕ _ _ (p.top a) (q.top a) i;
  flat = λ a. ≡_prop coded_ℤ _ _ (p.flat a) (q.flat a) i;
  near = λ a b h k e. ≤ℤ_prop (p.near a b h k e) (q.near a b h k e) i;
}

pub sound_out : (r : Record) → ∥ Sound r ∥₁ → Sound r
sound_out r t = ∥∥₁_elim t (sound_prop r) (λ s. s)

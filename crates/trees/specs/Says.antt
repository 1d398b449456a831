-- What a variable's text says of the solutions. Assumes nothing.
--
--   Says       x is always one number, and the text has its digits; or x is always the pair of two variables, and the text has theirs; or x can
--              be any value, and the text is `_` and the lowest variable that always equals x
--   TextsSay   so of every variable of every store
use Rattle.std.specs.Prelude.{◌≡◌, ℕ, ◌<◌, ◌≤◌, true, List, [], ◌∷◌, ◌++◌, ℤ, decimal}
use Rattle.std.specs.Fmt.{signed_decimal}
use Rattle.bank.specs.Kinds.{Value, number, pair, Assignment, Solutions}
use Rattle.bank.specs.Views.{Meaning, Always}

pub data Says (s : Solutions) (text : ℕ → List ℕ) (x : ℕ) : Type 0 where
  a_number : (k : ℤ) → Always s (λ σ. σ x ≡ number k) → text x ≡ signed_decimal k → Says s text x
  a_pair : (y z : ℕ) → y < 256 → z < 256 → Always s (λ σ. σ x ≡ pair (σ y) (σ z)) → text x ≡ 40 ∷ (text y ++ (46 ∷ (text z ++ (41 ∷ [])))) → Says s text x
  a_name : (r : ℕ) → ((w : Value) → (σ : Assignment) × ((s σ ≡ true) × (σ x ≡ w)))
      → Always s (λ σ. σ x ≡ σ r) → ((y : ℕ) → y < 256 → Always s (λ σ. σ x ≡ σ y) → r ≤ y)
      → text x ≡ 95 ∷ decimal r → Says s text x

abbrev pub TextsSay : Meaning → Type 0
TextsSay m = (s x : ℕ) → m.live s ≡ true → x < 256 → Says (m.solutions s) (m.text s) x

-- What a variable's text says of the solutions. Assumes nothing.
--
--   Is       x is one number in every solution
--   Lies     x lies at one distance above y in every solution
--   Says     the text is that number, or the name of the lowest variable from which x lies at one distance
--   AllSay   every text of a bank's stores says so
use Rattle.std.specs.Prelude.{◌≡◌, ℕ, ◌<◌, ◌≤◌, true, List, ◌∷◌, ◌++◌, ℤ, ◌+ℤ◌, decimal}
use Rattle.std.specs.Fmt.{signed_decimal}
use Rattle.bank.specs.Kinds.{number, Solutions}
use Rattle.bank.specs.Views.{Meaning, Always}
use Rattle.semitones.specs.Whole.{number_of}
use Rattle.semitones.specs.Cells.{apart}

abbrev pub Is : Solutions → ℕ → ℤ → Type 0
Is s x z = Always s (λ σ. σ x ≡ number z)

abbrev pub Lies : Solutions → ℕ → ℕ → ℤ → Type 0
Lies s x y d = Always s (λ σ. number_of (σ x) ≡ number_of (σ y) +ℤ d)

pub data Says (s : Solutions) (x : ℕ) (text : List ℕ) : Type 0 where
  a_number : (z : ℤ) → Is s x z → text ≡ signed_decimal z → Says s x text
  a_name :
      (r : ℕ) (d : ℤ) → r ≤ x → Lies s x r d → ((y : ℕ) (e : ℤ) → y < r → Lies s x y e → ⊥) → ((z : ℤ) → Is s x z → ⊥)
      → text ≡ 95 ∷ (decimal r ++ apart d) → Says s x text

abbrev pub AllSay : ℕ → Meaning → Type 0
AllSay variables m = (s x : ℕ) → m.live s ≡ true → x < variables → Says (m.solutions s) x (m.text s x)

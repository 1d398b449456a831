-- What a state of a bank means, and what every bank shows. Assumes nothing.
--
--   Meaning   the live stores, the solutions and the texts of each, and how many more can be made
--   Laws      the five laws, of which V is the first
--   View      all that is known of a bank from outside
use Rattle.std.specs.Prelude.{◌≡◌, ℕ, ◌<◌, ◌≤◌, Bool, true, List, length, ◌≢◌, slice_index}
use Rattle.bank.specs.Kinds.{Value, Kind, Assignment, Solutions}

pub record Meaning : Type 0 where
  pub live : ℕ → Bool
  pub solutions : ℕ → Solutions
  pub text : ℕ → ℕ → List ℕ
  pub spare : ℕ

-- in every solution
abbrev pub Always : Solutions → (Assignment → Type 0) → Type 0
Always s P = (σ : Assignment) → s σ ≡ true → P σ

-- The laws of texts speak of live stores and of their variables.
pub record Laws {S : Type 0} (variables : ℕ) (K : Kind) (meaning : S → Meaning) : Type 0 where
  -- V is 16 to 256
  pub wide : 16 ≤ variables
  pub narrow : variables ≤ 256
  -- the kind has a value
  pub some_value : (v : Value) × (K.admits v ≡ true)
  -- stores with equal solutions print equal texts, in one state or in two
  pub same_texts :
      (b c : S) (s t x : ℕ) → (meaning b).live s ≡ true → (meaning c).live t ≡ true → x < variables
      → ((σ : Assignment) → (meaning b).solutions s σ ≡ (meaning c).solutions t σ) → (meaning b).text s x ≡ (meaning c).text t x
  -- two variables of a store print alike exactly if every solution gives them equal values
  pub alike :
      (b : S) (s x y : ℕ) → (meaning b).live s ≡ true → x < variables → y < variables
      → (meaning b).text s x ≡ (meaning b).text s y → Always ((meaning b).solutions s) (λ σ. σ x ≡ σ y)
  pub alike_back :
      (b : S) (s x y : ℕ) → (meaning b).live s ≡ true → x < variables → y < variables
      → Always ((meaning b).solutions s) (λ σ. σ x ≡ σ y) → (meaning b).text s x ≡ (meaning b).text s y
  -- a text has at least one byte, and no comma or newline
  pub some_byte : (b : S) (s x : ℕ) → (meaning b).live s ≡ true → x < variables → 1 ≤ length ((meaning b).text s x)
  pub plain :
      (b : S) (s x : ℕ) → (meaning b).live s ≡ true → x < variables → (i : ℕ) → i < length ((meaning b).text s x)
      → (slice_index ((meaning b).text s x) i ≢ 44) × (slice_index ((meaning b).text s x) i ≢ 10)

pub record View (S : Type 0) : Type 0 where
  pub variables : ℕ
  pub kind : Kind
  pub meaning : S → Meaning
  pub laws : Laws variables kind meaning

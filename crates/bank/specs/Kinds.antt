-- Values, constraints and kinds, as mathematics. Assumes nothing.
--
--   Value          a whole number, or a pair of values
--   Condition      a constraint: its code, its number, its variables
--   Kind           which values a variable may have, which codes are known, and when a constraint holds
--   Assignment     a value for each variable
--   Solutions      a set of assignments, by its test
--   all_admitted   each variable below n has a value of the kind
--   holds_at       a constraint holds at an assignment
--   all_hold       each of some constraints does
--   solves         the solutions of some constraints over the variables below n
--   formed         as many variables as a code takes, if it is known, and a number from -1,000 to 1,000
--   well_formed    the same at the constraint's own code
--   in_range       each variable is below n
use Rattle.std.specs.Prelude.{◌≡◌, ℕ, zero, suc, Bool, true, false, ◌&&◌, List, [], ◌∷◌, map, length, ℤ, Some, None, Option, ◌==◌, nat_le, nat_lt, unsigned_abs}

pub data Value : Type 0 where
  number : ℤ → Value
  pair : Value → Value → Value

pub record Condition : Type 0 where
  pub code : ℕ
  pub k : ℤ
  pub vars : List ℕ

pub record Kind : Type 0 where
  pub admits : Value → Bool
  pub arity : ℕ → Option ℕ
  pub holds : ℕ → ℤ → List Value → Bool

abbrev pub Assignment : Type 0
Assignment = ℕ → Value

abbrev pub Solutions : Type 0
Solutions = Assignment → Bool

unfoldable pub all_admitted : Kind → ℕ → Solutions
all_admitted K zero σ = true
all_admitted K (suc n) σ = K.admits (σ n) && all_admitted K n σ

abbrev pub holds_at : Kind → Condition → Solutions
holds_at K c σ = K.holds c.code c.k (map σ c.vars)

abbrev pub all_hold : Kind → List Condition → Solutions
all_hold K [] σ = true
all_hold K (c ∷ cs) σ = holds_at K c σ && all_hold K cs σ

abbrev pub solves : Kind → ℕ → List Condition → Solutions
solves K n cs σ = all_admitted K n σ && all_hold K cs σ

-- the assignment is one of those solutions
abbrev pub Solves : Kind → ℕ → List Condition → Assignment → Type 0
Solves K n cs σ = solves K n cs σ ≡ true

abbrev pub takes : Option ℕ → ℕ → Bool
takes None n = false
takes (Some m) n = m == n

abbrev pub formed : Option ℕ → Condition → Bool
formed arity c = takes arity (length c.vars) && nat_le (unsigned_abs c.k) 1000

abbrev pub well_formed : Kind → Condition → Bool
well_formed K c = formed (K.arity c.code) c

abbrev pub all_below : ℕ → List ℕ → Bool
all_below n [] = true
all_below n (x ∷ xs) = nat_lt x n && all_below n xs

abbrev pub in_range : ℕ → Condition → Bool
in_range n c = all_below n c.vars

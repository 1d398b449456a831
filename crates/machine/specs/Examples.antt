-- Four books, what the machine makes of them, and where the faulty machines go wrong. Assumes nothing.
--
--   same             two values are equal
--   equal            the values are two, and equal
--   is_number        the value is one, and the number k
--   plain_arity      how many variables codes 0 and 1 take
--   plain_holds      what they say
--   plain            the kind of all values: code 0 says that two variables are equal, code 1 that a variable is the number k
--   two_ways         rule,1 / or / tell,1,60,0 / tell,1,67,0
--   both_ways        rule,2 / and / or / tell,1,60,0 / tell,1,67,0 / tell,0,0,0,1
--   again            rule,1 / or / call,0,0 / tell,1,5,0
--   idle             rule,0 / call,0
--   After            a run of t steps of some machine: which of them gave an answer, and whether anything is left
--   Weighs           the values have a derivation of this weight
--   TwoWays          what the machine does with a book, and what derivations weigh; and so BothWays, Again and Idle
--   LateTurnFails    with turns taken only after an answer, the book `again` is never answered
--   RestFirstFails   with the rest first, the book `both_ways` is answered at other steps
use Rattle.std.specs.Prelude.{◌≡◌, ℕ, zero, suc, Bool, true, false, ◌&&◌, List, [], ◌∷◌, map, ℤ, pos, is_some, Some, None, Option, int_le}
use Rattle.bank.specs.Kinds.{Value, number, pair, Kind}
use Rattle.book.specs.Language.{tell, conj, disj, call, Rules, rule_at, WellFormed}
use Rattle.machine.specs.Machine.{Answer, Tree, State, Step, Entry, Runs}
use Rattle.machine.specs.Derivations.{Deriv, weight}
use Rattle.machine.specs.Faulty.{LateTurn, RestFirst}

abbrev pub same : Value → Value → Bool
same (number j) (number k) = int_le j k && int_le k j
same (number k) (pair v w) = false
same (pair v w) (number k) = false
same (pair v w) (pair x y) = same v x && same w y

abbrev pub equal : List Value → Bool
equal [] = false
equal (v ∷ []) = false
equal (v ∷ w ∷ []) = same v w
equal (v ∷ w ∷ x ∷ vs) = false

abbrev pub is_number : ℤ → List Value → Bool
is_number k [] = false
is_number k (v ∷ []) = same v (number k)
is_number k (v ∷ w ∷ vs) = false

abbrev pub plain_arity : ℕ → Option ℕ
plain_arity zero = Some 2
plain_arity (suc zero) = Some 1
plain_arity (suc (suc code)) = None

abbrev pub plain_holds : ℕ → ℤ → List Value → Bool
plain_holds zero k vs = equal vs
plain_holds (suc zero) k vs = is_number k vs
plain_holds (suc (suc code)) k vs = false

abbrev pub plain : Kind
plain = record { admits = λ v. true; arity = plain_arity; holds = plain_holds }

abbrev pub two_ways : Rules
two_ways = record { params = 1; goal = disj (tell 1 (pos 60) (0 ∷ [])) (tell 1 (pos 67) (0 ∷ [])) } ∷ []

abbrev pub both_ways : Rules
both_ways = record { params = 2; goal = conj (disj (tell 1 (pos 60) (0 ∷ [])) (tell 1 (pos 67) (0 ∷ []))) (tell 0 (pos 0) (0 ∷ 1 ∷ [])) } ∷ []

abbrev pub again : Rules
again = record { params = 1; goal = disj (call 0 (0 ∷ [])) (tell 1 (pos 5) (0 ∷ [])) } ∷ []

abbrev pub idle : Rules
idle = record { params = 0; goal = call 0 [] } ∷ []

pub record After (step : Tree → Option Answer → State → Type 0) (rules : Rules) (t : ℕ) (answered : List ℕ) (more : Bool) : Type 0 where
  pub state : State
  pub answers : List Entry
  pub run : Runs step (rule_at rules 0) t state answers
  pub at : map (λ e. e.step) answers ≡ answered
  pub left : is_some state ≡ more

pub record Weighs (rules : Rules) (vs : List Value) (w : ℕ) : Type 0 where
  pub derivation : Deriv plain rules (rule_at rules 0).goal vs
  pub its_weight : weight derivation ≡ w

pub record TwoWays : Type 0 where
  pub well_formed : WellFormed two_ways
  pub answers : After (Step plain two_ways) two_ways 3 (2 ∷ 3 ∷ []) false
  pub first : Weighs two_ways (number (pos 60) ∷ []) 2
  pub second : Weighs two_ways (number (pos 67) ∷ []) 3

pub record BothWays : Type 0 where
  pub well_formed : WellFormed both_ways
  pub answers : After (Step plain both_ways) both_ways 6 (4 ∷ 6 ∷ []) false
  pub first : Weighs both_ways (number (pos 60) ∷ number (pos 60) ∷ []) 6
  pub second : Weighs both_ways (number (pos 67) ∷ number (pos 67) ∷ []) 12

pub record Again : Type 0 where
  pub well_formed : WellFormed again
  pub answers : After (Step plain again) again 9 (3 ∷ 6 ∷ 9 ∷ []) true
  pub first : Weighs again (number (pos 5) ∷ []) 3
  pub second : Weighs again (number (pos 5) ∷ []) 8

pub record Idle : Type 0 where
  pub well_formed : WellFormed idle
  pub answers : After (Step plain idle) idle 6 [] true

-- there is a run of every length, and none has an answer, where the true machine has one at step 3
pub record LateTurnFails : Type 0 where
  pub goes_on : (t : ℕ) → After (LateTurn plain again) again t [] true
  pub never : (t : ℕ) (S : State) (es : List Entry) → Runs (LateTurn plain again) (rule_at again 0) t S es → es ≡ []
  pub truly : After (Step plain again) again 3 (3 ∷ []) true

-- at steps 5 and 6, where the true machine answers at 4 and 6
pub record RestFirstFails : Type 0 where
  pub answers : After (RestFirst plain both_ways) both_ways 6 (5 ∷ 6 ∷ []) false
  pub truly : After (Step plain both_ways) both_ways 6 (4 ∷ 6 ∷ []) false

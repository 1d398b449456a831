-- Derivations: what it means that values solve a goal, with no machine. Assumes nothing.
--
--   values_of       the values of some slots
--   Deriv           a derivation of a goal under values of its slots
--   conj_weight     what an `and` weighs whose goals weigh d and e
--   weight          what a derivation weighs: no fewer steps than the search takes to answer it
--   choices         the sides that it takes, in order
--   AllAdmitted     each value is one of the kind
--   Posable         the values are some for the rule's parameters
--   solutions       the solutions of an answer
--   Occurs          values occur in some solutions, read on the variables 0 to p - 1
--   SameSolutions   the same values occur in two sets of solutions, read so
use Rattle.std.specs.Prelude.{◌≡◌, ℕ, ◌+◌, ◌-◌, ◌*◌, ◌^◌, true, List, [], ◌∷◌, ◌++◌, map, length, ℤ, pos, slice_index_or}
use Rattle.bank.specs.Kinds.{Value, number, Kind, Assignment, Solutions, solves}
use Rattle.book.specs.Language.{Goal, tell, conj, disj, fresh, call, Rule, Rules, rule_at, Each}
use Rattle.machine.specs.Machine.{Side, left, right, Answer, upto}

abbrev pub values_of : List Value → List ℕ → List Value
values_of vs slots = map (λ s. slice_index_or vs s (number (pos 0))) slots

pub data Deriv (K : Kind) (rules : Rules) : Goal → List Value → Type 0 where
  told_true :
      {code : ℕ} {k : ℤ} {slots : List ℕ} {vs : List Value}
      → K.holds code k (values_of vs slots) ≡ true → Deriv K rules (tell code k slots) vs
  both : {g h : Goal} {vs : List Value} → Deriv K rules g vs → Deriv K rules h vs → Deriv K rules (conj g h) vs
  by_left : {g h : Goal} {vs : List Value} → Deriv K rules g vs → Deriv K rules (disj g h) vs
  by_right : {g h : Goal} {vs : List Value} → Deriv K rules h vs → Deriv K rules (disj g h) vs
  with_value :
      {g : Goal} {vs : List Value} (v : Value) → K.admits v ≡ true → Deriv K rules g (vs ++ (v ∷ [])) → Deriv K rules (fresh g) vs
  by_rule :
      {r : ℕ} {slots : List ℕ} {vs : List Value}
      → Deriv K rules (rule_at rules r).goal (values_of vs slots) → Deriv K rules (call r slots) vs

abbrev pub conj_weight : ℕ → ℕ → ℕ
conj_weight d e = 2 ^ (d - 1) * (2 * e + 1)

module _ {K : Kind} {rules : Rules} where
  abbrev pub weight : {g : Goal} {vs : List Value} → Deriv K rules g vs → ℕ
  weight (told_true h) = 1
  weight (both d e) = conj_weight (weight d) (weight e)
  weight (by_left d) = 2 * weight d
  weight (by_right d) = 2 * weight d + 1
  weight (with_value v h d) = weight d + 1
  weight (by_rule d) = weight d + 1

  abbrev pub choices : {g : Goal} {vs : List Value} → Deriv K rules g vs → List Side
  choices (told_true h) = []
  choices (both d e) = choices d ++ choices e
  choices (by_left d) = left ∷ choices d
  choices (by_right d) = right ∷ choices d
  choices (with_value v h d) = choices d
  choices (by_rule d) = choices d

abbrev pub AllAdmitted : Kind → List Value → Type 0
AllAdmitted K vs = Each (λ v. K.admits v ≡ true) vs

abbrev pub Posable : Kind → Rule → List Value → Type 0
Posable K rule vs = (length vs ≡ rule.params) × AllAdmitted K vs

abbrev pub solutions : Kind → Answer → Solutions
solutions K a = solves K a.n a.told

abbrev pub Occurs : ℕ → Solutions → List Value → Type 0
Occurs p s vs = (σ : Assignment) × (s σ ≡ true) × (map σ (upto p) ≡ vs)

pub record SameSolutions (p : ℕ) (s s' : Solutions) : Type 0 where
  pub there : (vs : List Value) → Occurs p s vs → Occurs p s' vs
  pub back : (vs : List Value) → Occurs p s' vs → Occurs p s vs

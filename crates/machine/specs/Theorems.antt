-- What is shown of every kind, every well-formed book and every rule that fits it. Assumes nothing.
--
--   RuleFits        the goal of the rule fits the book
--   OwnRulesFit     the rules of a well-formed book fit it
--   till            the answers that came at step t or before
--   Agree           two runs agree as far as both go, and none goes on past the end of another
--   Deterministic   runs of one rule agree
--   FoundOnce       exactly one of the answers has the choices; it came by step w, and the values occur in it
--   Complete        each derivation is found, once, within as many steps as it weighs
--   Derived         the values are those of a derivation with the choices
--   Sound           values that occur in an answer are derived, with the answer's choices
--   Dated           each answer came at one of the steps made
--   GoesOn          where satisfiability can be decided, there is a run of every length until nothing is left
use Rattle.std.specs.Prelude.{◌≡◌, ℕ, ◌<◌, ◌≤◌, cond, ◌≢◌, ◌⊎◌, List, [], ◌∷◌, ◌++◌, length, None, nat_le}
use Rattle.bank.specs.Kinds.{Value, Condition, Kind, Assignment, Solves}
use Rattle.book.specs.Language.{Rule, Rules, rule_at, Fits, WellFormed, Each}
use Rattle.machine.specs.Machine.{Side, State, Entry, Run}
use Rattle.machine.specs.Derivations.{Deriv, weight, choices, Posable, solutions, Occurs}

abbrev pub RuleFits : Rules → Rule → Type 0
RuleFits rules rule = Fits rules rule.params rule.goal

abbrev pub OwnRulesFit : Type 0
OwnRulesFit = (rules : Rules) → WellFormed rules → (r : ℕ) → r < length rules → RuleFits rules (rule_at rules r)

abbrev pub till : ℕ → List Entry → List Entry
till t [] = []
till t (e ∷ es) = cond (nat_le e.step t) (e ∷ till t es) (till t es)

pub record Agree (t t' : ℕ) (S S' : State) (es es' : List Entry) : Type 0 where
  pub same_end : t ≡ t' → (S ≡ S') × (es ≡ es')
  pub same_answers : es ≡ till t es'
  pub no_more : S ≡ None → t ≡ t'

abbrev pub Deterministic : Type 0
Deterministic =
    (K : Kind) (rules : Rules) (rule : Rule) (t t' : ℕ) (S S' : State) (es es' : List Entry)
    → Run K rules rule t S es → Run K rules rule t' S' es' → t ≤ t' → Agree t t' S S' es es'

pub record FoundOnce (K : Kind) (rule : Rule) (ch : List Side) (w : ℕ) (vs : List Value) (es : List Entry) : Type 0 where
  pub before : List Entry
  pub found : Entry
  pub after : List Entry
  pub place : es ≡ before ++ (found ∷ after)
  pub its_choices : found.answer.choices ≡ ch
  pub none_before : Each (λ e. e.answer.choices ≢ ch) before
  pub none_after : Each (λ e. e.answer.choices ≢ ch) after
  pub in_time : found.step ≤ w
  pub occurs : Occurs rule.params (solutions K found.answer) vs

abbrev pub Complete : Type 0
Complete =
    (K : Kind) (rules : Rules) (rule : Rule) → WellFormed rules → RuleFits rules rule
    → (vs : List Value) → Posable K rule vs → (D : Deriv K rules rule.goal vs)
    → (t : ℕ) (S : State) (es : List Entry) → Run K rules rule t S es
    → (weight D ≤ t) ⊎ (S ≡ None) → FoundOnce K rule (choices D) (weight D) vs es

pub record Derived (K : Kind) (rules : Rules) (rule : Rule) (ch : List Side) (vs : List Value) : Type 0 where
  pub posable : Posable K rule vs
  pub derivation : Deriv K rules rule.goal vs
  pub its_choices : choices derivation ≡ ch

abbrev pub Sound : Type 0
Sound =
    (K : Kind) (rules : Rules) (rule : Rule) → WellFormed rules → RuleFits rules rule
    → (t : ℕ) (S : State) (es : List Entry) → Run K rules rule t S es
    → Each (λ e. (vs : List Value) → Occurs rule.params (solutions K e.answer) vs → Derived K rules rule e.answer.choices vs) es

abbrev pub Dated : Type 0
Dated =
    (K : Kind) (rules : Rules) (rule : Rule) (t : ℕ) (S : State) (es : List Entry)
    → Run K rules rule t S es → Each (λ e. (1 ≤ e.step) × (e.step ≤ t)) es

abbrev pub GoesOn : Type 0
GoesOn =
    (K : Kind) (rules : Rules) (rule : Rule) → ((n : ℕ) (cs : List Condition) → Dec ((σ : Assignment) × Solves K n cs σ))
    → (t : ℕ) → (u : ℕ) × (S : State) × (es : List Entry) × Run K rules rule u S es × ((u ≡ t) ⊎ ((u ≤ t) × (S ≡ None)))

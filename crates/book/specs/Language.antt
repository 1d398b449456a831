-- Goals, rules and books, as whoever writes a book means them. Assumes nothing.
--
--   Goal         what is to be found: a constraint, both or either of two goals, a goal with a new slot, a rule
--   Rule         how many slots it begins with, and its goal
--   Rules        a book: its rules in order
--   rule_at      the rule of that number
--   size         how many goals there are in a goal, itself among them
--   total        how many goals a book has
--   Fits         a goal names only slots in scope, and calls rules of the book with as many slots as they take
--   WellFormed   each rule's goal fits
--   Shallow      no goal has more than 16 slots in scope
use Rattle.std.specs.Prelude.{◌≡◌, ℕ, suc, ◌+◌, ◌<◌, List, [], ◌∷◌, length, ℤ, pos, slice_index_or}

-- A slot is a place in the list of what is in scope.
pub data Goal : Type 0 where
  tell : ℕ → ℤ → List ℕ → Goal
  conj : Goal → Goal → Goal
  disj : Goal → Goal → Goal
  fresh : Goal → Goal
  call : ℕ → List ℕ → Goal

pub record Rule : Type 0 where
  pub params : ℕ
  pub goal : Goal

abbrev pub Rules : Type 0
Rules = List Rule

-- stands where there is no goal; no well-formed book ever shows it
abbrev pub nothing : Goal
nothing = tell 0 (pos 0) []

abbrev pub rule_at : Rules → ℕ → Rule
rule_at rules r = slice_index_or rules r (record { params = 0; goal = nothing })

abbrev pub size : Goal → ℕ
size (tell code k slots) = 1
size (conj g h) = size g + size h + 1
size (disj g h) = size g + size h + 1
size (fresh g) = size g + 1
size (call r slots) = 1

abbrev pub total : Rules → ℕ
total [] = 0
total (r ∷ rs) = size r.goal + total rs

-- the fact P of each element of a list
abbrev pub Each : {A : Type 0} → (A → Type 0) → List A → Type 0
Each P [] = Unit {0}
Each P (x ∷ xs) = P x × Each P xs

abbrev pub Fits : Rules → ℕ → Goal → Type 0
Fits rules p (tell code k slots) = Each (λ s. s < p) slots
Fits rules p (conj g h) = Fits rules p g × Fits rules p h
Fits rules p (disj g h) = Fits rules p g × Fits rules p h
Fits rules p (fresh g) = Fits rules (suc p) g
Fits rules p (call r slots) = (r < length rules) × (length slots ≡ (rule_at rules r).params) × Each (λ s. s < p) slots

abbrev pub WellFormed : Rules → Type 0
WellFormed rules = Each (λ r. Fits rules r.params r.goal) rules

abbrev pub Shallow : ℕ → Goal → Type 0
Shallow p (tell code k slots) = Unit {0}
Shallow p (conj g h) = Shallow p g × Shallow p h
Shallow p (disj g h) = Shallow p g × Shallow p h
Shallow p (fresh g) = (p < 16) × Shallow (suc p) g
Shallow p (call r slots) = Unit {0}

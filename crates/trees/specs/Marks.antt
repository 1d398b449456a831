-- Marking variables from the bottom up, for the contracts of private functions. Assumes nothing.
--
--   Marked    some variables are marked, and each of them has a value
--   Stuck     no more can be marked
--   Step      one variable is looked at
--   Passed    all are
--   Grounds   whether no class lies below itself; one that does has no finite tree
use Rattle.std.specs.Prelude.{◌≡◌, ℕ, ◌<◌, ◌≤◌, Bool, true, false, List, length, count_by, slice_index_or}
use Rattle.bank.specs.Kinds.{Assignment}
use Rattle.trees.specs.Stores.{Store, form_of, Solves}
use Rattle.trees.specs.Values.{ready, deep}

abbrev pub marked : List Bool → ℕ → Bool
marked marks x = slice_index_or marks x false

-- n variables are marked, and each of them has a value of at most n levels
pub record Marked (r : Store) (marks : List Bool) (n : ℕ) : Type 0 where
  pub size : length marks ≡ r.used
  pub count : n ≡ count_by (λ b. b) marks
  pub sure : (x : ℕ) → marked marks x ≡ true → deep r n x ≡ true

-- no more can be marked from i on
abbrev pub Stuck : Store → List Bool → ℕ → Type 0
Stuck r marks i = (x : ℕ) → i ≤ x → x < r.used → marked marks x ≡ false → ready (marked marks) (form_of r x) ≡ false

-- either x is newly marked, or nothing changes and x is no more ready than marked
pub record Step (r : Store) (marks news : List Bool) (x n m : ℕ) : Type 0 where
  pub holds : Marked r news m
  pub grows : n ≤ m
  pub stuck : m ≡ n → (news ≡ marks) × (marked marks x ≡ false → ready (marked marks) (form_of r x) ≡ false)

pub record Passed (r : Store) (marks : List Bool) (n m : ℕ) : Type 0 where
  pub holds : Marked r marks m
  pub grows : n ≤ m
  pub stuck : m ≡ n → Stuck r marks 0

abbrev pub Grounds : Store → Bool → Type 0
Grounds r true = (x : ℕ) → x < 256 → deep r 256 x ≡ true
Grounds r false = (σ : Assignment) → Solves r σ → ⊥

-- What each call answers and changes: m is the meaning before, n the meaning after. Assumes nothing.
--
--   Opens, Forks, Tells, Releases, Prints   the five calls, by their answers
--
-- A refusal stands with its cause, and with the fact that no earlier cause holds: not live, no spare store, no such constraint, no such
-- variable, contradiction. Texts are not spoken of where solutions stay, since equal solutions have equal texts.
use Rattle.std.specs.Prelude.{◌≡◌, ℕ, ◌+◌, ◌<◌, ◌≤◌, true, false, ◌&&◌, List, length, take, drop, replicate, Ok, Err, Result, ◌≢◌}
use Rattle.bank.specs.declared.Effect.{Effect}
use Rattle.bank.specs.declared.Effect.TheVariants.{Kept, Narrowed}
use Rattle.bank.specs.declared.Refusal.{Refusal}
use Rattle.bank.specs.declared.Refusal.TheVariants.{NotLive, NoSpare, BadConstraint, BadVariable, Contradiction, TextTooLong}
use Rattle.bank.specs.Kinds.{Kind, Condition, Assignment, Solutions, all_admitted, holds_at, well_formed, in_range}
use Rattle.bank.specs.Views.{Meaning}

-- nothing has changed
pub record Unchanged (m n : Meaning) : Type 0 where
  pub live : (t : ℕ) → n.live t ≡ m.live t
  pub solutions : (t : ℕ) → m.live t ≡ true → (σ : Assignment) → n.solutions t σ ≡ m.solutions t σ
  pub spare : n.spare ≡ m.spare

-- the other stores are as they were
pub record Others (m n : Meaning) (s : ℕ) : Type 0 where
  pub live : (t : ℕ) → (t ≢ s) → n.live t ≡ m.live t
  pub solutions : (t : ℕ) → (t ≢ s) → m.live t ≡ true → (σ : Assignment) → n.solutions t σ ≡ m.solutions t σ

-- a number that was not live is now a store with these solutions
pub record Added (m n : Meaning) (s : ℕ) (solutions : Solutions) : Type 0 where
  pub was : m.live s ≡ false
  pub is : n.live s ≡ true
  pub has : (σ : Assignment) → n.solutions s σ ≡ solutions σ
  pub others : Others m n s
  pub spare : n.spare + 1 ≡ m.spare

pub record NoneSpare (m n : Meaning) : Type 0 where
  pub none : m.spare ≡ 0
  pub same : Unchanged m n

pub record IsNotLive (m n : Meaning) (s : ℕ) : Type 0 where
  pub not : m.live s ≡ false
  pub same : Unchanged m n

abbrev pub Opens : Kind → ℕ → Meaning → Meaning → Result ℕ Refusal → Type 0
Opens K v m n (Ok s) = Added m n s (all_admitted K v)
Opens K v m n (Err NoSpare) = NoneSpare m n
Opens K v m n (Err NotLive) = ⊥
Opens K v m n (Err BadConstraint) = ⊥
Opens K v m n (Err BadVariable) = ⊥
Opens K v m n (Err Contradiction) = ⊥
Opens K v m n (Err TextTooLong) = ⊥

abbrev pub Forks : Meaning → Meaning → ℕ → Result ℕ Refusal → Type 0
Forks m n s (Ok t) = (m.live s ≡ true) × Added m n t (m.solutions s)
Forks m n s (Err NoSpare) = (m.live s ≡ true) × NoneSpare m n
Forks m n s (Err NotLive) = IsNotLive m n s
Forks m n s (Err BadConstraint) = ⊥
Forks m n s (Err BadVariable) = ⊥
Forks m n s (Err Contradiction) = ⊥
Forks m n s (Err TextTooLong) = ⊥

-- the store has those of its solutions at which the constraint holds, and there is one
pub record Accepted (K : Kind) (v : ℕ) (m n : Meaning) (s : ℕ) (c : Condition) : Type 0 where
  pub was : m.live s ≡ true
  pub formed : well_formed K c ≡ true
  pub within : in_range v c ≡ true
  pub is : n.live s ≡ true
  pub has : (σ : Assignment) → n.solutions s σ ≡ (m.solutions s σ && holds_at K c σ)
  pub some : (σ : Assignment) × (n.solutions s σ ≡ true)
  pub others : Others m n s
  pub spare : n.spare ≡ m.spare

-- and it has lost none
pub record KeptAll (K : Kind) (v : ℕ) (m n : Meaning) (s : ℕ) (c : Condition) : Type 0 where
  pub accepted : Accepted K v m n s c
  pub all : (σ : Assignment) → n.solutions s σ ≡ m.solutions s σ

pub record IllFormed (K : Kind) (m n : Meaning) (s : ℕ) (c : Condition) : Type 0 where
  pub was : m.live s ≡ true
  pub formed : well_formed K c ≡ false
  pub same : Unchanged m n

pub record OutOfRange (K : Kind) (v : ℕ) (m n : Meaning) (s : ℕ) (c : Condition) : Type 0 where
  pub was : m.live s ≡ true
  pub formed : well_formed K c ≡ true
  pub within : in_range v c ≡ false
  pub same : Unchanged m n

-- no solution would be left
pub record Contradicted (K : Kind) (v : ℕ) (m n : Meaning) (s : ℕ) (c : Condition) : Type 0 where
  pub was : m.live s ≡ true
  pub formed : well_formed K c ≡ true
  pub within : in_range v c ≡ true
  pub never : (σ : Assignment) → (m.solutions s σ && holds_at K c σ) ≡ false
  pub same : Unchanged m n

abbrev pub Tells : Kind → ℕ → Meaning → Meaning → ℕ → Condition → Result Effect Refusal → Type 0
Tells K v m n s c (Ok Kept) = KeptAll K v m n s c
Tells K v m n s c (Ok Narrowed) = Accepted K v m n s c
Tells K v m n s c (Err NotLive) = IsNotLive m n s
Tells K v m n s c (Err BadConstraint) = IllFormed K m n s c
Tells K v m n s c (Err BadVariable) = OutOfRange K v m n s c
Tells K v m n s c (Err Contradiction) = Contradicted K v m n s c
Tells K v m n s c (Err NoSpare) = ⊥
Tells K v m n s c (Err TextTooLong) = ⊥

pub record Released (m n : Meaning) (s : ℕ) : Type 0 where
  pub was : m.live s ≡ true
  pub is : n.live s ≡ false
  pub others : Others m n s
  pub spare : n.spare ≡ m.spare + 1

abbrev pub Releases : Meaning → Meaning → ℕ → Result (Unit {0}) Refusal → Type 0
Releases m n s (Ok u) = Released m n s
Releases m n s (Err NotLive) = IsNotLive m n s
Releases m n s (Err NoSpare) = ⊥
Releases m n s (Err BadConstraint) = ⊥
Releases m n s (Err BadVariable) = ⊥
Releases m n s (Err Contradiction) = ⊥
Releases m n s (Err TextTooLong) = ⊥

-- the text stands at the front of the part, and the rest of the part is as it was
pub record Printed (v : ℕ) (m : Meaning) (s x : ℕ) (before after : List ℕ) (len : ℕ) : Type 0 where
  pub live : m.live s ≡ true
  pub within : x < v
  pub long : len ≡ length (m.text s x)
  pub room : len ≤ length before
  pub front : take len after ≡ m.text s x
  pub rest : drop len after ≡ drop len before

pub record NoVariable (v : ℕ) (m : Meaning) (s x : ℕ) (before after : List ℕ) : Type 0 where
  pub live : m.live s ≡ true
  pub outside : v ≤ x
  pub same : after ≡ before

-- the whole part is zero
pub record NoRoom (v : ℕ) (m : Meaning) (s x : ℕ) (before after : List ℕ) : Type 0 where
  pub live : m.live s ≡ true
  pub within : x < v
  pub long : length before < length (m.text s x)
  pub zero : after ≡ replicate (length before) 0

abbrev pub Prints : ℕ → Meaning → ℕ → ℕ → List ℕ → List ℕ → Result ℕ Refusal → Type 0
Prints v m s x before after (Ok len) = Printed v m s x before after len
Prints v m s x before after (Err NotLive) = (m.live s ≡ false) × (after ≡ before)
Prints v m s x before after (Err BadVariable) = NoVariable v m s x before after
Prints v m s x before after (Err TextTooLong) = NoRoom v m s x before after
Prints v m s x before after (Err NoSpare) = ⊥
Prints v m s x before after (Err BadConstraint) = ⊥
Prints v m s x before after (Err Contradiction) = ⊥

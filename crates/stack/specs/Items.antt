-- What a stack holds, and what its calls do. Assumes nothing.
--
--   items    its elements, the latest first
--   room     how many elements find a place
--   top      the latest of some elements, if there is one
--   below    the others
--   Pushed   one push: full exactly if every slot is in use
--   Popped   one pop: none exactly if the stack is empty
use Rattle.std.specs.Prelude.{◌≡◌, ℕ, ◌<◌, List, [], ◌∷◌, reverse, length, take, Some, None, Ok, Err, Option, Result, slice_set}
use Rattle.stack.specs.declared.Stack.{Stack}
use Rattle.stack.specs.declared.Full.{Full}

abbrev pub items : {T : Type 0} → Stack T → List T
items s = reverse (take s.len s.slots.now)

abbrev pub room : {T : Type 0} → Stack T → ℕ
room s = length s.slots.now

abbrev pub top : {T : Type 0} → List T → Option T
top [] = None
top (x ∷ xs) = Some x

abbrev pub below : {T : Type 0} → List T → List T
below [] = []
below (x ∷ xs) = xs

-- the lent slots change only where the new element goes
abbrev pub Pushed : {T : Type 0} → Stack T → T → Result (Unit {0}) Full → Stack T → Type 0
Pushed s x (Ok u) t = (length (items s) < room s) × (items t ≡ x ∷ items s) × (t.slots.now ≡ slice_set s.slots.now (length (items s)) x)
Pushed s x (Err e) t = (length (items s) ≡ room s) × (t ≡ s)

-- the lent slots do not change
pub record Popped {T : Type 0} (s : Stack T) (r : Option T) (t : Stack T) : Type 0 where
  pub value : r ≡ top (items s)
  pub left : items t ≡ below (items s)
  pub lent : t.slots.now ≡ s.slots.now

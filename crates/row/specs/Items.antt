-- What a row holds. Assumes nothing.
--
--   items    the elements in use, in order
--   Last     the last of some elements, if there is one
--   Popped   the last of some elements is taken off, if there is one
use Rattle.std.specs.Prelude.{◌≡◌, ℕ, List, [], ◌∷◌, ◌++◌, take, Some, None, Option}
use Rattle.row.specs.declared.Row.{Row}

abbrev pub items : {T : Type 0} {N : ℕ} → Row T N → List T
items r = take r.len r.places

abbrev pub Last : {T : Type 0} → List T → Option T → Type 0
Last xs None = xs ≡ []
Last xs (Some x) = (front : List _) × (xs ≡ front ++ x ∷ [])

abbrev pub Popped : {T : Type 0} → List T → Option T → List T → Type 0
Popped before None after = (before ≡ []) × (after ≡ [])
Popped before (Some x) after = before ≡ after ++ x ∷ []

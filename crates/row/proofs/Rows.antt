-- A row holds at most as many elements as it has places, and the last of them is the one that is taken off. Assumes nothing.
use Rattle.std.proofs.Common.{◌≡◌, ℕ, ◌≤◌, List, [], ◌∷◌, ◌++◌, length, Some, None, Option, sym, ap, ◌∙◌, arith}
use Rattle.std.proofs.lemmas.List.{length-take-le, length_push, same_from_push}
use Rattle.row.specs.declared.Row.{Row}
use Rattle.row.specs.Items.{items, Last, Popped}

pub items_few : {T : Type 0} {N : ℕ} (r : Row T N) → length (items r) ≤ N
items_few r = omega (arith, length-take-le r.len r.places (omega (arith, r.few, r.whole)), r.few)

pub last_popped : {T : Type 0} (before after : List T) (x : T) (r : Option T) → Last before (Some x) → Popped before r after → before ≡ after ++ x ∷ []
last_popped before after x None L p = let z : length before ≡ 0 = ap length p.0 in absurd (omega (arith, ap length L.1, length_push L.0 x))
last_popped before after x (Some y) L p = p ∙ ap (λ (z : _). after ++ z ∷ []) (sym (same_from_push L.0 after x y (sym L.1 ∙ p)).1)

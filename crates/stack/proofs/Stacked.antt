-- How many elements a stack holds. Assumes nothing.
use Rattle.std.proofs.Common.{◌≡◌, ℕ, ◌≤◌, length, take, ◌∙◌, arith}
use Rattle.std.proofs.lemmas.List.{length-reverse, length-take-le}
use Rattle.stack.specs.declared.Stack.{Stack}
use Rattle.stack.specs.Items.{items, room}

pub items_length : {T : Type 0} (s : Stack T) → length (items s) ≡ s.len
items_length s = length-reverse (take s.len s.slots.now) ∙ length-take-le s.len s.slots.now s.fits

pub items_room : {T : Type 0} (s : Stack T) → length (items s) ≤ room s
items_room s = let e = items_length s in let h = s.fits in omega arith

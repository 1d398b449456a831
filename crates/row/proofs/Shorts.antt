-- A short row holds at most as many elements as it has places. Assumes nothing.
use Rattle.std.proofs.Common.{ℕ, ◌≤◌, length, arith}
use Rattle.std.proofs.lemmas.List.{length-take-le}
use Rattle.row.specs.declared.ShortRow.{ShortRow}
use Rattle.row.specs.Shorts.{items}

pub items_few : {T : Type 0} {N : ℕ} (r : ShortRow T N) → length (items r) ≤ N
items_few r = omega (arith, length-take-le r.len r.places (omega (arith, r.few, r.whole)), r.few)

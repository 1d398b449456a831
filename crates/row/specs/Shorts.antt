-- What a short row holds. Assumes nothing.
--
--   items    the elements in use, in order
use Rattle.std.specs.Prelude.{ℕ, List, take}
use Rattle.row.specs.declared.ShortRow.{ShortRow}

abbrev pub items : {T : Type 0} {N : ℕ} → ShortRow T N → List T
items r = take r.len r.places

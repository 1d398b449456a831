use Rattle.std.proofs.Common.{◌≡◌, ℕ, ◌<◌, ◌≤◌, get_or}
use Rattle.trees.specs.Stores.{no_cell}
use Rattle.trees.proofs.Writing.{under}
use Rattle.trees.proofs.joins.link.Given as goal

abbrev pub invariant-loop-cell : goal.invariant-loop-cell
invariant-loop-cell l =
    ((a : ℕ) → a < l.cell-index → get_or l.cells a no_cell ≡ under l.from l.to (get_or l.initial.cells a no_cell))
    × ((a : ℕ) → l.cell-index ≤ a → get_or l.cells a no_cell ≡ get_or l.initial.cells a no_cell)

use Rattle.std.proofs.Common.{◌≡◌, ◌+◌, ◌*◌, ◌<◌, length}
use Rattle.stack.specs.Items.{items, room}
use Rattle.trees.specs.Stores.{Shaped, Named, Same, Left, classes}
use Rattle.trees.proofs.joins.resolve.Given as goal

abbrev pub invariant-loop-e : goal.invariant-loop-e
invariant-loop-e l = Shaped l.r × (l.r.used ≡ l.initial.r.used) × Named l.r.used (items l.s)
    × (classes l.r + length (items l.s) < room l.s)
    × Same (Left l.initial.r (items l.initial.s)) (Left l.r (items l.s))

abbrev pub decreases-loop-e : goal.decreases-loop-e
decreases-loop-e l = 2 * classes l.r + length (items l.s)

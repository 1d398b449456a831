use Rattle.std.proofs.Common.{◌-◌}
use Rattle.trees.specs.Marks.{Marked}
use Rattle.trees.proofs.levels.marks_all.Given as goal

abbrev pub invariant-loop-n : goal.invariant-loop-n
invariant-loop-n l = Marked l.r l.marks l.n

abbrev pub decreases-loop-n : goal.decreases-loop-n
decreases-loop-n l = l.r.used - l.n

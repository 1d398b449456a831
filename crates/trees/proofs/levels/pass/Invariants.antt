use Rattle.std.proofs.Common.{◌≡◌, ◌≤◌}
use Rattle.trees.specs.Marks.{Marked, Stuck}
use Rattle.trees.proofs.levels.pass.Given as goal

abbrev pub invariant-loop-x : goal.invariant-loop-x
invariant-loop-x l = Marked l.r l.marks l.m × (l.n ≤ l.m) × (l.m ≡ l.n → Stuck l.r l.marks l.x)

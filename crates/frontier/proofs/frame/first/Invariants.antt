use Rattle.std.proofs.Common.{◌≡◌, length}
use Rattle.row.specs.Shorts.{items}
use Rattle.machine.specs.Machine.{upto}
use Rattle.frontier.proofs.frame.first.Given as goal

abbrev pub invariant-loop-variable : goal.invariant-loop-variable
invariant-loop-variable l = (items l.frame ≡ upto l.variable) × (length (items l.frame) ≡ l.variable)

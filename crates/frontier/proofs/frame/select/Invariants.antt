use Rattle.std.proofs.Common.{◌≡◌, length, take}
use Rattle.machine.specs.Machine.{vars_of_lem}
use Rattle.frontier.proofs.frame.select.Given as goal

abbrev pub invariant-loop-i : goal.invariant-loop-i
invariant-loop-i g l = (length l.variables ≡ g.row.N) × (take l.i l.variables ≡ vars_of_lem l.scope (take l.i l.places))

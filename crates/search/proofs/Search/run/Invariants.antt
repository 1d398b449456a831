use Rattle.std.proofs.Common.{◌-◌}
use Rattle.search.proofs.Along.{Along}
use Rattle.search.proofs.Search.run.Given as goal

abbrev pub invariant-loop-outcome : goal.invariant-loop-outcome
invariant-loop-outcome g l = Along g.B.Bank.view l.initial.self l.self l.steps l.budget

abbrev pub decreases-loop-outcome : goal.decreases-loop-outcome
decreases-loop-outcome g l = l.budget - l.steps

use Rattle.frontier.proofs.tree.Tree.TheLaws.{the_size}
use Rattle.frontier.proofs.steps.+step.Given as goal

abbrev pub decreases-step : goal.decreases-step
decreases-step g l = the_size l.t.now

use Rattle.frontier.proofs.tree.Tree.TheLaws.{the_size}
use Rattle.frontier.proofs.tree.+next_goal.Given as goal

abbrev pub decreases-next_goal : goal.decreases-next_goal
decreases-next_goal l = the_size l.t.now

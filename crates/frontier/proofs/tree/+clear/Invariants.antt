use Rattle.frontier.proofs.tree.Tree.TheLaws.{the_size}
use Rattle.frontier.proofs.tree.+clear.Given as goal

abbrev pub decreases-clear : goal.decreases-clear
decreases-clear g l = the_size l.t.now

-- The promise is kept. Assumes nothing.
use Rattle.search.proofs.Both.{promise_kept}
use Rattle.search.proofs.promise.common_steps.Goals as goal

pub returns-clause-promise : goal.returns-clause-promise
returns-clause-promise g c = promise_kept g.A.Bank.view g.B.Bank.view c.args.left.now c.args.right.now

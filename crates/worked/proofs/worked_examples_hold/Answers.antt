-- Every row of the table. Assumes nothing.
use Rattle.worked.proofs.worked_examples_hold.Goals as goal
use Rattle.worked.proofs.Books.{cut_refused, bare_alike}
use Rattle.worked.proofs.Runs.{two_ways_runs, two_ways_left, two_ways_right, both_ways_runs, both_ways_left, both_ways_right}
use Rattle.worked.proofs.Runs.{again_runs, again_first, again_second, inside_runs, fifth_runs, idle_runs}
use Rattle.worked.proofs.Tells.{eleven_refused, twelve_accepted}

infixr 5 ◌&◌
◌&◌ : {A B : Type 0} → A → B → A × B
a & b = (a, b)

pub returns : goal.returns
returns c =
    two_ways_runs & two_ways_left & two_ways_right
    & both_ways_runs & both_ways_left & both_ways_right
    & again_runs & again_first & again_second
    & inside_runs & fifth_runs & idle_runs
    & cut_refused & bare_alike & eleven_refused & twelve_accepted & tt

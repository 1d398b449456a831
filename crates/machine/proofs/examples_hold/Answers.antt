-- The examples. Assumes nothing.
use Rattle.machine.proofs.examples_hold.Goals as goal
use Rattle.machine.proofs.Worked.{two_ways_holds, both_ways_holds, again_holds, idle_holds}

pub returns : goal.returns
returns c = record { two_ways = two_ways_holds; both_ways = both_ways_holds; again = again_holds; idle = idle_holds }

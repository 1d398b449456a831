-- The two refutations. Assumes nothing.
use Rattle.machine.proofs.faulty_machines_are_refuted.Goals as goal
use Rattle.machine.proofs.Refutations.{same_otherwise, late_turn_fails, rest_first_fails}

pub returns : goal.returns
returns c = record { same_otherwise = same_otherwise; late_turn = late_turn_fails; rest_first = rest_first_fails }

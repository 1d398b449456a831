-- What the loop of `first_idle` keeps: no slot so far is idle.
use Rattle.std.proofs.Common.{◌≡◌, take, count_by}
use Rattle.records.specs.Slots.{idle}
use Rattle.records.proofs.slots.first_idle.Given as goal

abbrev pub invariant-loop-i : goal.invariant-loop-i
invariant-loop-i g l = count_by idle (take l.i l.slots) ≡ 0

-- What the loop of `idle_all` keeps: the slots so far are idle and counted, and every record is as it was.
use Rattle.std.proofs.Common.{◌≡◌, ℕ, ◌<◌, false, take, count_by}
use Rattle.records.specs.Slots.{idle, live_at, SameRecords}
use Rattle.records.proofs.slots.idle_all.Given as goal

abbrev pub invariant-loop-slot : goal.invariant-loop-slot
invariant-loop-slot g l = (count_by idle (take l.slot-index l.slots) ≡ l.slot-index) × ((k : ℕ) → k < l.slot-index → live_at l.slots k ≡ false) × SameRecords l.initial.slots l.slots

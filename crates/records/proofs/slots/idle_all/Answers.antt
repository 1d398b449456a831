-- Why `idle_all` ends every store and counts the slots.
use Rattle.std.proofs.Common.{◌≡◌, ◌<◌, ◌≢◌, length, count_by, sym, refl, ap, ◌∙◌, ⊎_elim, arith, below_more}
use Rattle.std.proofs.lemmas.List.{take_all, get_or_default}
use Rattle.std.proofs.lemmas.Bool.{cases_lt}
use Rattle.records.specs.declared.slots.Slot.{Slot}
use Rattle.records.specs.Slots.{idle}
use Rattle.records.proofs.Places.{live_here, live_there, past_idle, same_more}
use Rattle.records.proofs.Counts.{idle_more}
use Rattle.records.proofs.slots.idle_all.Goals as goal

pub loop-slot-preserved : goal.loop-slot-preserved
loop-slot-preserved g c =
    let slots = c.loop-slot.slots in
    let lt : c.loop-slot.slot-index < length slots = omega arith in (
      idle_more slots c.loop-slot.slot-index _ lt refl c.loop-slot.invariant.0,
      below_more _ _
          (λ k h. let ne : k ≢ c.loop-slot.slot-index = omega arith in live_there slots c.loop-slot.slot-index _ k ne ∙ c.loop-slot.invariant.1 k h)
          (live_here slots c.loop-slot.slot-index _ lt),
      same_more c.args.slots.now slots c.loop-slot.slot-index _ c.loop-slot.invariant.2 lt
          (λ past. ap (λ (s : Slot _). s.record) (get_or_default slots c.loop-slot.slot-index c.slot-item.result past lt)),
    )

pub returns : goal.returns
returns g c =
    let slots = c.loop-slot.slots in
    let end : length slots ≡ c.loop-slot.slot-index = omega arith in
    record {
      none = λ k. ⊎_elim (λ l. c.loop-slot.invariant.1 k (omega arith)) (λ h. past_idle slots k h) (cases_lt k (length slots));
      counted = end ∙ sym c.loop-slot.invariant.0 ∙ ap (count_by idle) (take_all c.loop-slot.slot-index slots (omega arith));
      all = omega arith;
      same = c.loop-slot.invariant.2;
    }

-- Why `first_idle` finds the first idle slot.
use Rattle.std.proofs.Common.{◌<◌, not, length, count_by, sym, ap, ◌∙◌, arith}
use Rattle.std.proofs.lemmas.List.{take_all}
use Rattle.std.proofs.lemmas.List.Sums.{count_by_more_no}
use Rattle.records.specs.Slots.{idle}
use Rattle.records.proofs.slots.first_idle.Goals as goal

pub loop-i-preserved : goal.loop-i-preserved
loop-i-preserved g c =
    let l : c.loop-i.i < length c.args.slots.now = omega arith in
    count_by_more_no idle c.args.slots.now c.loop-i.i _ l (ap not c.if-not-slots-i.false) ∙ c.loop-i.invariant

pub returns : goal.returns
returns g c = ap (count_by idle) (sym (take_all c.loop-i.i c.args.slots.now (omega arith))) ∙ c.loop-i.invariant

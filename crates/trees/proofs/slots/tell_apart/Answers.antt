-- Why a store is told in an idle slot, or on a copy.
use Rattle.std.proofs.Common.{ap, sym, ◌∙◌}
use Rattle.std.proofs.lemmas.Bool.{both_ways}
use Rattle.records.specs.Slots.{live_at}
use Rattle.records.proofs.Places.{live_within}
use Rattle.trees.proofs.Aside.{past_slot, told_here, told_aside}
use Rattle.trees.proofs.slots.tell_apart.Goals as goal

pub bounds-slots-store : goal.bounds-slots-store
bounds-slots-store c = live_within c.args.slots.now c.args.store c.requires.live

pub tell_copied-requires : goal.tell_copied-requires
tell_copied-requires c = c.requires.sound past_slot

pub returns-in-None : goal.returns-in-None
returns-in-None c =
    let slots = c.args.slots.now in
    let i = c.args.store in
    told_here slots i (live_within slots i c.requires.live) past_slot c.tell_copied.new.r c.args.t c.tell_copied.result c.tell_copied.ensures

pub tell_aside-requires : goal.tell_aside-requires
tell_aside-requires c =
    let slots = c.args.slots.now in
    let first = c.requires.aside c.in-Some.i c.in-Some.is in
    record {
      source = live_within slots c.args.store c.requires.live;
      target = first.0;
      apart = λ q. both_ways (live_at slots c.in-Some.i) first.1 (ap (live_at slots) (sym q) ∙ c.requires.live);
      sound = c.requires.sound;
    }

pub returns-in-Some : goal.returns-in-Some
returns-in-Some c =
    let first = c.requires.aside c.in-Some.i c.in-Some.is in
    told_aside c.args.slots.now c.tell_aside.new.slots c.args.store c.in-Some.i first.0 first.1 c.args.t c.tell_aside.result c.tell_aside.ensures

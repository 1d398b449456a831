-- Why a store is told: where it stands, or apart from there if nothing is decided and nothing is written.
use Rattle.std.proofs.Common.{◌≡◌, ◌<◌, true, false, List, length, sym, subst}
use Rattle.std.specs.Option.{ForSome}
use Rattle.records.specs.declared.slots.Slot.{Slot}
use Rattle.records.specs.Slots.{live_at}
use Rattle.records.proofs.Places.{live_within}
use Rattle.trees.specs.Stores.{Store}
use Rattle.trees.specs.Meaning.{SoundAt}
use Rattle.trees.proofs.Aside.{past_slot, told_here, undecided, told_since}
use Rattle.trees.proofs.slots.tell.Goals as goal

pub bounds-slots-store : goal.bounds-slots-store
bounds-slots-store c = live_within c.args.slots.now c.args.store c.requires.live

pub decide-requires : goal.decide-requires
decide-requires c = c.requires.sound past_slot

pub returns-in-Some : goal.returns-in-Some
returns-in-Some c =
    told_here c.args.slots.now c.args.store (live_within c.args.slots.now c.args.store c.requires.live) past_slot c.decide.new.r c.args.t _ c.in-Some.ensures

pub tell_apart-requires : goal.tell_apart-requires
tell_apart-requires c =
    let i = c.args.store in
    let same = sym (undecided c.args.slots.now i past_slot c.decide.new.r c.in_default.ensures) in
    record {
      live = subst (λ (xs : List (Slot Store)). live_at xs i ≡ true) same c.requires.live;
      aside = subst (λ (xs : List (Slot Store)). ForSome c.args.aside (λ k. (k < length xs) × (live_at xs k ≡ false))) same c.requires.aside;
      sound = subst (SoundAt i) same c.requires.sound;
    }

pub returns : goal.returns
returns c =
    let slots = c.args.slots.now in
    let i = c.args.store in
    told_since slots _ c.tell_apart.new.slots i c.args.t c.tell_apart.result (undecided slots i past_slot c.decide.new.r c.in_default.ensures) c.tell_apart.ensures

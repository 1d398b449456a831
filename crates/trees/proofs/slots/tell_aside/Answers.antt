-- Why a store can be told in an idle slot.
use Rattle.std.proofs.Common.{refl, rules}
use Rattle.trees.proofs.Aside.{past_slot, aside_sound, aside_refused, aside_held, aside_narrowed, fewer, within}
use Rattle.trees.proofs.slots.tell_aside.Goals as goal

pub copy-requires : goal.copy-requires
copy-requires c = record { source = c.requires.source; target = c.requires.target; apart = c.requires.apart; sound = λ past. ∣ c.requires.sound past ∣₁ }

pub narrow-requires : goal.narrow-requires
narrow-requires c =
    aside_sound c.args.slots.now c.args.store c.args.aside c.requires.source c.requires.target c.requires.apart c.requires.sound c.args.t c.copy.new.slots c.copy.ensures past_slot

pub returns-in_err-narrow : goal.returns-in_err-narrow
returns-in_err-narrow c =
    let told = aside_refused c.args.slots.now c.args.store c.args.aside c.requires.source c.requires.target c.requires.apart c.requires.sound c.args.t c.copy.new.slots c.copy.ensures
    c.narrow.new.r past_slot c.in_err-narrow.ensures in
    search rules

pub alike-requires : goal.alike-requires
alike-requires c = record {
  more = fewer c.args.slots.now c.args.store c.args.aside c.requires.source c.requires.target c.requires.apart c.requires.sound c.args.t c.copy.new.slots c.copy.ensures
      c.narrow.new.r past_slot c.in_ok-narrow.ensures _ _;
  within = within c.args.slots.now c.args.store c.args.aside c.requires.source c.requires.target c.requires.apart c.requires.sound c.args.t c.copy.new.slots c.copy.ensures
      c.narrow.new.r past_slot c.in_ok-narrow.ensures _;
}

pub returns-then-alike : goal.returns-then-alike
returns-then-alike c = aside_held c.args.slots.now c.args.store c.args.aside c.requires.source c.requires.target c.requires.apart c.requires.sound c.args.t c.copy.new.slots c.copy.ensures
    c.narrow.new.r past_slot c.in_ok-narrow.ensures _ _ (c.if-alike.ensures refl)

pub returns : goal.returns
returns c = aside_narrowed c.args.slots.now c.args.store c.args.aside c.requires.source c.requires.target c.requires.apart c.requires.sound c.args.t c.copy.new.slots c.copy.ensures
    c.narrow.new.r past_slot c.in_ok-narrow.ensures c.copy-2.new.slots c.copy-2.ensures

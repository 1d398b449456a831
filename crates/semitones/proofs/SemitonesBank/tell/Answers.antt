-- Why `tell` answers and narrows as the constraint says.
use Rattle.std.proofs.Common.{◌≡◌, ℕ, true, get_or, set, ap, ◌∙◌, subst, length}
use Rattle.bank.specs.Calls.{Tells}
use Rattle.bank.specs.Conditions.{condition}
use Rattle.records.specs.Vacant.{vacant}
use Rattle.records.proofs.Places.{live_within}
use Rattle.records.proofs.Shelves.{Held}
use Rattle.records.proofs.Orders.{Orderly, orderly_held}
use Rattle.records.specs.Slots.{live_at, holding}
use Rattle.semitones.specs.Whole.{whole}
use Rattle.semitones.specs.Cells.{stores, Sound}
use Rattle.semitones.specs.laws.Laws.{no_slot, sound_at}
use Rattle.semitones.proofs.Telling.{joins_sound, tells}
use Rattle.semitones.proofs.SemitonesBank.tell.Goals as goal

pub join-requires : goal.join-requires
join-requires c =
    let b = c.args.self.now in
    let stands = c.in_ok-at.ensures in
    record { sound = sound_at b.slots.now c.in_ok-at.at (ap (live_at b.slots.now) stands.0 ∙ stands.1) no_slot b.kept }

pub invariant_of-self : goal.invariant_of-self
invariant_of-self c =
    let b = c.args.self.now in
    let i = c.in_ok-at.at in
    let stands = c.in_ok-at.ensures in
    let live : live_at b.slots.now i ≡ true = ap (live_at b.slots.now) stands.0 ∙ stands.1 in
    let past = no_slot in
    let s = c.join.new.r in
    let S = joins_sound (get_or b.slots.now i past).record s c.in_ok-e.e c.join.result (sound_at b.slots.now i live past b.kept) c.join.ensures in
    let ns = vacant b.vacancies in
    let O : Orderly (Held Sound) b.slots.now ns (length ns) = record { small = b.small; counted = b.counted; listed = b.listed; kept = b.kept } in
    let N = orderly_held (Held Sound) b.slots.now ns (length ns) O i s past (live_within b.slots.now i live) (λ e. ∣ S ∣₁) in
    record { small = N.small; fits = b.fits; counted = N.counted; listed = N.listed; kept = N.kept }

pub returns : goal.returns
returns c =
    let b = c.args.self.now in
    let i = c.in_ok-at.at in
    let stands = c.in_ok-at.ensures in
    let live : live_at b.slots.now i ≡ true = ap (live_at b.slots.now) stands.0 ∙ stands.1 in
    let s = c.join.new.r in
    let past = no_slot in
    let p = length (vacant b.vacancies) in
    subst (λ (n : ℕ). Tells whole 256 (stores b.slots.now p) (stores (set b.slots.now i (holding s (get_or b.slots.now i past))) p) n (condition c.args.constraint.now) c.join.result) stands.0
    (tells b.slots.now p i live past (condition c.args.constraint.now) c.in_ok-e.e c.in_ok-e.ensures (sound_at b.slots.now i live past b.kept) s c.join.result c.join.ensures)

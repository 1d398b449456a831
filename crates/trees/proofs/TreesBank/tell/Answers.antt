-- Why `tell` answers and narrows as the constraint says.
use Rattle.std.proofs.Common.{◌≡◌, ℕ, true, length, ap, ◌∙◌, subst}
use Rattle.bank.specs.Calls.{Tells}
use Rattle.bank.specs.Conditions.{condition}
use Rattle.records.specs.Slots.{live_at}
use Rattle.records.specs.Vacant.{vacant}
use Rattle.records.proofs.Orders.{Orderly}
use Rattle.trees.specs.Kind.{trees}
use Rattle.trees.specs.Values.{Kept}
use Rattle.trees.specs.Meaning.{means}
use Rattle.trees.specs.laws.All.{sound_at}
use Rattle.trees.proofs.Telling.{told_orderly, told_tells}
use Rattle.trees.proofs.TreesBank.tell.Goals as goal

pub tell-requires-clause-sound : goal.tell-requires-clause-sound
tell-requires-clause-sound c past =
    let b = c.args.self.now in
    let stands = c.in_ok-at.ensures in
    sound_at b.slots.now c.in_ok-at.at (ap (live_at b.slots.now) stands.0 ∙ stands.1) past b.kept

pub invariant_of-self : goal.invariant_of-self
invariant_of-self c =
    let b = c.args.self.now in
    let stands = c.in_ok-at.ensures in
    let live : live_at b.slots.now c.in_ok-at.at ≡ true = ap (live_at b.slots.now) stands.0 ∙ stands.1 in
    let ns = vacant b.vacancies in
    let O : Orderly Kept b.slots.now ns (length ns) = record { small = b.small; counted = b.counted; listed = b.listed; kept = b.kept } in
    let N = told_orderly b.slots.now ns (length ns) c.in_ok-at.at O live c.in_ok-t.t c.tell.new.slots c.tell.result c.tell.ensures in
    record { small = N.small; fits = b.fits; counted = N.counted; listed = N.listed; kept = N.kept }

pub returns : goal.returns
returns c =
    let b = c.args.self.now in
    let stands = c.in_ok-at.ensures in
    let live : live_at b.slots.now c.in_ok-at.at ≡ true = ap (live_at b.slots.now) stands.0 ∙ stands.1 in
    let ns = vacant b.vacancies in
    let p = length ns in
    let O : Orderly Kept b.slots.now ns (length ns) = record { small = b.small; counted = b.counted; listed = b.listed; kept = b.kept } in
    subst (λ (n : ℕ). Tells trees 256 (means b.slots.now p) (means c.tell.new.slots p) n (condition c.args.constraint.now) c.tell.result) stands.0
    (told_tells b.slots.now ns p c.in_ok-at.at O live c.in_ok-t.t c.tell.new.slots c.tell.result c.tell.ensures (condition c.args.constraint.now) c.in_ok-t.ensures)

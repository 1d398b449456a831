-- Why `release` ends a store.
use Rattle.std.proofs.Common.{◌≡◌, ℕ, ◌∷◌, ◌++◌, [], true, List, length, get_or, set, sym, refl, ap, ◌∙◌, subst}
use Rattle.std.proofs.lemmas.List.{length_push}
use Rattle.bank.specs.Calls.{Released}
use Rattle.records.specs.Slots.{live_at, means}
use Rattle.records.specs.Vacant.{vacant}
use Rattle.records.proofs.Orders.{Orderly, room_left, orderly_ended}
use Rattle.records.proofs.Places.{live_within}
use Rattle.records.proofs.Shelves.{Held, orderly, shelved, ended}
use Rattle.records.proofs.Writes.{released}
use Rattle.records.proofs.shelf.release.Goals as goal

pub push-requires-clause-room : goal.push-requires-clause-room
push-requires-clause-room g c =
    let S = g.R.Stored in
    let slots = c.args.slots.now in
    let ns = vacant c.args.vacancies.now in
    let O = orderly S.sound slots c.args.vacancies.now c.requires in
    room_left (Held S.sound) slots ns (length ns) O c.args.store (ended (get_or slots c.args.store c.index-slots-at.result)) c.in_ok-at.ensures.1 refl

pub returns : goal.returns
returns g c =
    let S = g.R.Stored in
    let slots = c.args.slots.now in
    let v = c.args.vacancies.now in
    let w = c.push.new.self in
    let at = c.in_ok-at.at in
    let y = ended (get_or slots at c.index-slots-at.result) in
    let stands = c.in_ok-at.ensures in
    let live : live_at slots at ≡ true = ap (live_at slots) stands.0 ∙ stands.1 in
    let ns = vacant v in
    let O = orderly S.sound slots v c.requires in
    let is = c.push.ensures.pushed ∙ ap (λ (n : ℕ). ns ++ n ∷ []) (sym stands.0) in
    let N = subst (λ (xs : List ℕ). Orderly (Held S.sound) (set slots at y) xs (length xs)) (sym is) (orderly_ended (Held S.sound) slots ns (length ns) O at y live refl) in
    let p = length ns in
    let n = length (vacant w) in
    record {
      shelved = shelved S.sound _ w c.push.ensures.fits N;
      releases = subst (λ (i : ℕ). Released (means S.solutions S.text slots p) (means S.solutions S.text (set slots at y) n) i) stands.0
          (released S.solutions S.text slots at y (live_within slots at live) p n live refl (ap length c.push.ensures.pushed ∙ length_push ns c.args.store));
    }

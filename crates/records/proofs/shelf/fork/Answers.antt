-- Why `fork` makes a store with the solutions of another.
use Rattle.std.proofs.Common.{ℕ, false, get_or, sym, ap, ◌∙◌}
use Rattle.bank.specs.Kinds.{Solutions}
use Rattle.records.specs.Vacant.{vacant}
use Rattle.records.proofs.Places.{live_within, noted_is}
use Rattle.records.proofs.Shelves.{orderly, shelved, next_within, begun_then, begun_orderly, begun_added}
use Rattle.records.proofs.shelf.fork.Goals as goal

pub returns : goal.returns
returns g c =
    let S = g.R.Stored in
    let slots = c.args.slots.now in
    let v = c.args.vacancies.now in
    let w = c.pop.new.self in
    let s = c.args.store in
    let at = c.in-Some.at in
    let C = c.copy.ensures in
    let past = c.index-slots-at.result in
    let e = c.pop.ensures.popped at c.in-Some.ensures.last in
    let O = orderly S.sound slots v c.requires in
    let W = begun_then at C.new slots c.copy.new.slots past (next_within S.sound slots (vacant v) (vacant w) at e O) C.is in
    let stands = c.in_ok-from.ensures in
    record {
      shelved = shelved S.sound _ w c.pop.ensures.fits (begun_orderly S.sound slots (vacant v) (vacant w) at e O C.new past _ W C.sound);
      forks = (
        stands.1,
        begun_added S.sound slots (vacant v) (vacant w) at e O C.new past _ W S.solutions S.text _
            (λ σ. C.same past σ ∙ ap (λ (i : ℕ). S.solutions (get_or slots i past).record σ) stands.0
            ∙ sym (ap (λ (f : Solutions). f σ) (noted_is slots s (λ σ. false) S.solutions past (live_within slots s stands.1)))),
      );
    }

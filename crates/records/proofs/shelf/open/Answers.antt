-- Why `open` makes a store with all solutions.
use Rattle.std.proofs.Common.{refl}
use Rattle.bank.specs.Kinds.{all_admitted}
use Rattle.records.specs.Vacant.{vacant}
use Rattle.records.proofs.Shelves.{orderly, shelved, begun_orderly, begun_added}
use Rattle.records.proofs.shelf.open.Goals as goal

pub returns : goal.returns
returns g c =
    let S = g.R.Stored in
    let slots = c.args.slots.now in
    let v = c.args.vacancies.now in
    let w = c.pop.new.self in
    let at = c.in-Some.at in
    let e = c.pop.ensures.popped at c.in-Some.ensures.last in
    let O = orderly S.sound slots v c.requires in
    record {
      shelved = shelved S.sound _ w c.pop.ensures.fits (begun_orderly S.sound slots (vacant v) (vacant w) at e O c.clear.new.self c.index-slots-at.result _ (λ past. refl) c.clear.ensures.sound);
      opens = begun_added S.sound slots (vacant v) (vacant w) at e O c.clear.new.self c.index-slots-at.result _ (λ past. refl) S.solutions S.text (all_admitted S.kind S.V) c.clear.ensures.all;
    }

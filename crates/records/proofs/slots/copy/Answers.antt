-- Why `copy` copies one record, wherever the two slots stand.
use Rattle.std.proofs.Common.{arith}
use Rattle.records.proofs.Copies.{copied_up, copied_down}
use Rattle.records.proofs.slots.copy.Goals as goal

pub returns-then-from-to : goal.returns-then-from-to
returns-then-from-to g c =
    let S = g.R.Stored in
    let s = c.split_at_mut-front in
    copied_up S.alike S.sound S.solutions c.args.slots.now s.result.0.now s.result.1.now s.ensures.value c.args.from c.args.to c.copy_from.new.self
    c.index-back-0.result c.index-front-from.result c.requires.source c.requires.target
    c.if-from-to.true s.ensures.front_len c.copy_from.ensures.alike c.copy_from.ensures.sound c.copy_from.ensures.same

pub returns-else-from-to : goal.returns-else-from-to
returns-else-from-to g c =
    let S = g.R.Stored in
    let s = c.split_at_mut-front-else-from-to in
    let r = c.copy_from-else-from-to in
    copied_down S.alike S.sound S.solutions c.args.slots.now s.result.0.now s.result.1.now s.ensures.value c.args.from c.args.to r.new.self
    c.index-front-to.result c.index-back-0-else-from-to.result c.requires.source c.requires.target
    (omega (arith, c.if-from-to.false, c.requires.apart)) s.ensures.front_len r.ensures.alike r.ensures.sound r.ensures.same

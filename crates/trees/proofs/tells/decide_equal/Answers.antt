use Rattle.std.proofs.Common.{sym, arith}
use Rattle.trees.proofs.Writing.{reached}
use Rattle.trees.proofs.Deciding.{equal_united}
use Rattle.trees.proofs.tells.decide_equal.Goals as goal

pub returns-then-is_flat-2 : goal.returns-then-is_flat-2
returns-then-is_flat-2 c =
    let R = (reached c.args.r.now c.reach.new.self c.span.result c.requires.shaped.used c.span.ensures.few c.reach.ensures) in
    let P = c.span.ensures.all in
    equal_united c.args.r.now c.args.t c.root_of-a.result c.root_of-b.result c.root_of-a.ensures c.root_of-b.ensures
    c.form_at-f.result c.form_at-g.result c.form_at-f.ensures c.form_at-g.ensures
    c.reach.new.self c.unite.new.r c.span.result c.requires R (omega (arith, P.0, R.covers)) (omega (arith, P.1, R.covers)) c.if-a-b.false
    (sym c.if-clashes.ensures) (sym c.if-is_flat.ensures) (sym c.if-is_flat-2.ensures)
    c.choose.result c.choose.ensures c.unite.ensures.up c.unite.ensures.down

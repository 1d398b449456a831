use Rattle.std.proofs.Common.{sym, refl, ◌∙◌, rules, arith}
use Rattle.stack.specs.Items.{items}
use Rattle.trees.specs.laws.Shapes.{form_read}
use Rattle.trees.proofs.Joining.{united, joined_already, joined_never}
use Rattle.trees.proofs.joins.join.Goals as goal

pub returns-then-a-b : goal.returns-then-a-b
returns-then-a-b c =
    let S = c.requires.shaped in
    record {
      room = refl;
      joined = joined_already c.args.r.now c.args.e (items c.args.s.now) S (omega (arith, c.requires.named.0, S.used)) (omega (arith, c.requires.named.1, S.used)) c.requires.pending
          (sym c.root_of-a.ensures ∙ c.if-a-b.true ∙ c.root_of-b.ensures);
    }

pub returns-in_err-meet : goal.returns-in_err-meet
returns-in_err-meet c =
    let S = c.requires.shaped in
    let r = c.args.r.now in
    let e = c.args.e in
    let f = c.form_at-f.result in
    let g = c.form_at-g.result in
    let never = joined_never r e (items c.args.s.now) f g (omega (arith, c.requires.named.0, S.used)) (omega (arith, c.requires.named.1, S.used))
    (form_read r e.x c.root_of-a.result f f c.root_of-a.ensures c.form_at-f.ensures refl)
    (form_read r e.y c.root_of-b.result g g c.root_of-b.ensures c.form_at-g.ensures refl)
    c.in_err-meet.ensures.met in
    record { room = c.meet.ensures.room; joined = search rules }

pub returns : goal.returns
returns c =
    let S = c.requires.shaped in
    let met = c.in_ok-meet.ensures.met in
    record {
      room = c.meet.ensures.room;
      joined = united c.args.r.now c.unite.new.r S c.args.e (items c.args.s.now) (items c.meet.new.s) (omega (arith, c.requires.named.0, S.used)) (omega (arith, c.requires.named.1, S.used)) c.requires.pending
          c.root_of-a.result c.root_of-b.result c.form_at-f.result c.form_at-g.result c.choose.result
          c.root_of-a.ensures c.root_of-b.ensures c.form_at-f.ensures c.form_at-g.ensures c.choose.ensures met.0 met.1 c.if-a-b.false c.unite.ensures.up c.unite.ensures.down;
    }

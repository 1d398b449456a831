use Rattle.std.proofs.Common.{◌<◌, sym, refl, ◌∙◌, rules, arith}
use Rattle.trees.specs.laws.Shapes.{formed_more}
use Rattle.trees.proofs.Writing.{reformed, reached}
use Rattle.trees.proofs.Deciding.{form_placed}
use Rattle.trees.proofs.tells.decide_form.Goals as goal

pub returns-then-is_shallow : goal.returns-then-is_shallow
returns-then-is_shallow c =
    let q = c.reach.new.self in
    let t = c.args.t in
    let a = c.root_of-a.result in
    let S = c.requires in
    let R = (reached c.args.r.now c.reach.new.self c.span.result c.requires.shaped.used c.span.ensures.few c.reach.ensures) in
    let P = c.span.ensures.all in
    let la : a < q.used = omega (arith, c.root_of-a.ensures, S.shaped.low t.x t.within, P.0, R.covers) in
    form_placed c.args.r.now q _ c.span.result a t S R (formed_more c.span.result q.used t.form R.covers P.1) c.root_of-a.ensures
    (sym c.form_at-f.ensures ∙ search rules) (sym c.if-is_shallow.ensures)
    (reformed q _ refl a t.form la (omega (arith, la, R.within, c.whole.ensures)) refl)

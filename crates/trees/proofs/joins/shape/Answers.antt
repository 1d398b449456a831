use Rattle.std.proofs.Common.{◌<◌, List, ◌++◌, refl, ap, ◌∙◌, arith}
use Rattle.stack.specs.Items.{items}
use Rattle.trees.specs.declared.cells.Equation.{Equation}
use Rattle.trees.specs.Joins.{sides}
use Rattle.trees.proofs.Narrowing.{shaped_start}
use Rattle.trees.proofs.Writing.{reformed}
use Rattle.trees.proofs.joins.shape.Goals as goal

pub returns : goal.returns
returns c =
    let r = c.args.r.now in
    let t = c.args.t in
    let a = c.root_of-a.result in
    let f = c.form_at-f.result in
    let met = c.in_ok-meet.ensures.met in
    let la : a < r.used = omega (arith, c.root_of-a.ensures, c.requires.shaped.low t.x t.within, c.requires.proper.0) in
    record {
      room = c.meet.ensures.room;
      started = shaped_start r _ t a f c.choose.result (items c.meet.new.s) c.requires.shaped c.requires.proper.1
          c.root_of-a.ensures c.form_at-f.ensures c.choose.ensures met.0 (met.1 ∙ ap (λ (es : List Equation). sides f t.form ++ es) c.requires.empty)
          (reformed r _ refl a c.choose.result la (omega (arith, la, c.requires.shaped.used, c.whole.ensures)) refl);
    }

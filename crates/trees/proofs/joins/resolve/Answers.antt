use Rattle.std.proofs.Common.{◌≡◌, List, ◌∷◌, length, sym, ap, ◌∙◌, subst, arith}
use Rattle.stack.specs.Items.{items}
use Rattle.trees.specs.declared.cells.Equation.{Equation}
use Rattle.trees.specs.Stores.{Left, Same}
use Rattle.trees.proofs.Narrowing.{popped, same_trans, emptied}
use Rattle.trees.proofs.joins.resolve.Goals as goal

pub loop-e-preserved : goal.loop-e-preserved
loop-e-preserved c =
    let w = c.loop-e.s in
    let v = c.pop.new.self in
    let u = c.join.new.s in
    let got = c.in-Some.ensures in
    let e : items w ≡ c.in-Some.e ∷ items v = popped (items w) (items v) c.in-Some.e got.does.value got.does.left in
    let j = c.in_ok-join.ensures.joined in
    let len = ap length e in (
      j.shaped,
      j.used ∙ c.loop-e.invariant.1,
      j.named,
      omega (arith, j.room, c.loop-e.invariant.3, ap length got.does.lent, c.in_ok-join.ensures.room),
      same_trans (Left c.args.r.now (items c.args.s.now)) (Left c.loop-e.r (items w)) (Left c.join.new.r (items u))
          c.loop-e.invariant.4 (subst (λ (es : List Equation). Same (Left c.loop-e.r es) (Left c.join.new.r (items u))) (sym e) j.left),
    )

pub returns : goal.returns
returns c =
    let inv = c.loop-e.invariant in
    record {
      shaped = inv.0;
      used = inv.1;
      left = emptied (Left c.args.r.now (items c.args.s.now)) c.loop-e.r (items c.loop-e.s) c.in_default.ensures.does.value inv.4;
    }

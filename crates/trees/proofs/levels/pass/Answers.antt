use Rattle.std.proofs.Common.{◌≡◌, ◌-◌, arith}
use Rattle.trees.proofs.Grounding.{stuck_more}
use Rattle.trees.proofs.levels.pass.Goals as goal

pub loop-x-init : goal.loop-x-init
loop-x-init c = (c.requires.marked, omega arith, λ e x g l t. let z : ⊥ = omega arith in absurd z)

pub loop-x-preserved : goal.loop-x-preserved
loop-x-preserved c =
    let step = c.mark-m.ensures in (
      step.holds,
      omega (arith, step.grows, c.loop-x.invariant.1),
      λ e.
          let same : c.mark-m.result ≡ c.loop-x.m = omega (arith, step.grows, c.loop-x.invariant.1) in
          let before : c.loop-x.m ≡ c.args.n = omega (arith, step.grows, c.loop-x.invariant.1) in
          stuck_more c.args.r.now c.loop-x.marks c.mark-m.new.marks (c.loop-x.x - 1) (step.stuck same).0
          (λ x g l t. c.loop-x.invariant.2 before x (omega (arith, c.loop-x-test.true)) l t) (step.stuck same).1,
    )

pub returns : goal.returns
returns c =
    let inv = c.loop-x.invariant in
    record { holds = inv.0; grows = inv.1; stuck = λ e x g l t. inv.2 e x (omega (arith, c.loop-x-test.false)) l t }

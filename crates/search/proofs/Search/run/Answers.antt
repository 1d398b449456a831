-- How each way through a run ends. Assumes nothing.
use Rattle.std.proofs.Common.{◌<◌, ap, ◌∙◌, arith}
use Rattle.search.specs.declared.refusal.Halt.{Halt}
use Rattle.search.specs.Refusals.{halted}
use Rattle.search.proofs.Runs.{stopped, along_on}
use Rattle.search.proofs.Along.{none_left_on}
use Rattle.search.proofs.Search.run.Goals as goal

pub halt-requires : goal.halt-requires
halt-requires g c =
    let h = c.in-Err.ensures.does in
    let o = c.in_default.ensures in
    record {
      posed = h.same.posed ∙ c.loop-outcome.invariant.is_posed;
      going = h.same.over ∙ o.1;
    }

pub loop-outcome-preserved : goal.loop-outcome-preserved
loop-outcome-preserved g c =
    let o = c.in_default.ensures in
    let a = c.loop-outcome.invariant in
    let l : c.loop-outcome.steps < c.args.budget = omega (arith, a.few, o.2) in
    along_on g.B.Bank.view c.args.self.now c.loop-outcome.self c.advance.new.self c.loop-outcome.steps c.args.budget a l o.0 c.in-Ok.ensures.does c.in-Ok.ensures.none_left

pub returns-in-Err : goal.returns-in-Err
returns-in-Err g c =
    let h = c.in-Err.ensures.does in
    let o = c.in_default.ensures in
    let a = c.loop-outcome.invariant in
    let l : c.loop-outcome.steps < c.args.budget = omega (arith, a.few, o.2) in
    record {
      good = c.holds-in-Err.ensures;
      does = stopped g.B.Bank.view c.args.self.now c.loop-outcome.self c.advance.new.self c.loop-outcome.steps c.args.budget a l o.0 c.in-Err.stop _
          (c.halted.ensures ∙ ap (λ (h : Halt). halted c.in-Err.stop h) c.halt.ensures) h;
      none_left = none_left_on g.B.Bank.view c.args.self.now c.loop-outcome.self c.advance.new.self a.none_left c.in-Err.ensures.none_left;
    }

-- The leaf takes the chain's place, or goes before it. Assumes nothing.
use Rattle.std.proofs.Common.{Bool, sym, ap, ◌∙◌, subst, arith, rules}
use Rattle.frontier.specs.Steps.{TakesUp}
use Rattle.frontier.specs.Trees.{boxes}
use Rattle.frontier.proofs.steps.take_up.Goals as goal

pub returns-then-ended : goal.returns-then-ended
returns-then-ended c = record {
  does = subst (λ (d : Bool). TakesUp d c.args.t.now c.args.leaf c.replace.new.dest) (sym c.if-ended.true) c.replace.ensures.after;
  kept = omega (arith, c.give_back.ensures.len, ap boxes c.replace.ensures.after, ap boxes c.replace.ensures.value, c.requires.leaf);
  cap = search rules;
}

pub returns-else-ended : goal.returns-else-ended
returns-else-ended c = record {
  does = subst (λ (d : Bool). TakesUp d c.args.t.now c.args.leaf c.ahead.result) (sym c.if-ended.false)
      (record { first = c.boxed-leaf.result; second = c.boxed-chain.result; is = c.ahead.ensures; its_leaf = c.boxed-leaf.ensures.holds; its_chain = c.boxed-chain.ensures.holds ∙ c.replace-else-ended.ensures.value });
  kept = omega (arith, ap boxes c.ahead.ensures, c.boxed-leaf.ensures.len, c.boxed-chain.ensures.len, ap boxes c.boxed-leaf.ensures.holds, ap boxes (c.boxed-chain.ensures.holds ∙ c.replace-else-ended.ensures.value), c.requires.leaf);
  cap = search rules;
}

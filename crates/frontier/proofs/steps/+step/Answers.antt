-- Each way through a step of a branch or a chain. Assumes nothing.
use Rattle.std.proofs.Common.{Box, refl, ap, ◌∙◌}
use Rattle.frontier.specs.declared.tree.Tree.{Tree}
use Rattle.std.specs.declared.alloc.Global.{Global}
use Rattle.frontier.proofs.Moves.{branch_ended, branch_on, chain_ended, chain_on, chain_taken, sub_as, whole}
use Rattle.frontier.proofs.steps.+step.Goals as goal

pub returns-then-ended-clause-does : goal.returns-then-ended-clause-does
returns-then-ended-clause-does g t c = λ rules T. whole c.in-Branch.is (λ r.
    branch_ended c.in-Branch.a c.in-Branch.b c.step.new.t _ T _
    (c.replace.ensures.after ∙ (c.replace-right.ensures.value ∙ c.deref_mut-then-ended.ensures.value)) r
    (sub_as c.deref_mut.ensures.value refl c.if-ended.true (c.in_ok-answer-in-Branch.ensures.does rules)))

pub returns-else-ended-clause-does : goal.returns-else-ended-clause-does
returns-else-ended-clause-does g t c = λ rules T. whole c.in-Branch.is (λ r.
    branch_on c.in-Branch.a c.in-Branch.b _ _ c.step.new.t T _
    (ap (λ (b : Box Tree Global). b.value) c.take_turns.ensures.first) (ap (λ (b : Box Tree Global). b.value) c.take_turns.ensures.second) r
    (sub_as c.deref_mut.ensures.value refl c.if-ended.false (c.in_ok-answer-in-Branch.ensures.does rules)))

pub returns-then-ended-2-clause-does : goal.returns-then-ended-2-clause-does
returns-then-ended-2-clause-does g t c = λ rules T. whole c.in-Chain.is (λ r.
    chain_ended c.in-Chain.a c.in-Chain.g c.in-Chain.frame c.step-in-Chain.new.t _ T r
    (sub_as c.deref_mut-in-Chain.ensures.value c.in-None.is c.if-ended-2.true (c.in_ok-answer-in-Chain.ensures.does rules)))

pub returns-else-ended-2-clause-does : goal.returns-else-ended-2-clause-does
returns-else-ended-2-clause-does g t c = λ rules T. whole c.in-Chain.is (λ r.
    chain_on c.in-Chain.a _ c.in-Chain.g c.in-Chain.frame c.step-in-Chain.new.t T refl r
    (sub_as c.deref_mut-in-Chain.ensures.value c.in-None.is c.if-ended-2.false (c.in_ok-answer-in-Chain.ensures.does rules)))

pub returns-in-Some-clause-does : goal.returns-in-Some-clause-does
returns-in-Some-clause-does g t c = λ rules T. whole c.in-Chain.is (λ r.
    chain_taken _ c.in-Chain.a _ c.in-Chain.g c.in-Chain.frame c.step-in-Chain.new.t _ _ T c.in-Some.found
    c.take_up.ensures.does c.leaf-leaf.ensures refl r
    (sub_as c.deref_mut-in-Chain.ensures.value c.in-Some.is refl (c.in_ok-answer-in-Chain.ensures.does rules)))

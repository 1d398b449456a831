-- An answer that waits is released. Assumes nothing.
use Rattle.std.proofs.Common.{ap, ◌∙◌}
use Rattle.search.specs.declared.Search.{Search}
use Rattle.search.proofs.Posing.{took}
use Rattle.search.proofs.Search.take.Goals as goal

pub invariant_of-self : goal.invariant_of-self
invariant_of-self g c =
    let posed = ap (λ (s : Search _). s.posed) c.self.view_is ∙ c.in_ok-taken.ensures.0 in
    let waits = ap (λ (s : Search _). s.waiting) c.self.view_is ∙ c.in_ok-taken.ensures.1 in
    (took g.B.Bank.view _ c.self.invariant _ c.in_ok-taken.taken posed waits c.let_go.ensures).good

pub returns : goal.returns
returns g c =
    let posed = ap (λ (s : Search _). s.posed) c.self.view_is ∙ c.in_ok-taken.ensures.0 in
    let waits = ap (λ (s : Search _). s.waiting) c.self.view_is ∙ c.in_ok-taken.ensures.1 in
    let t = took g.B.Bank.view _ c.self.invariant _ c.in_ok-taken.taken posed waits c.let_go.ensures in
    rw (← c.self.view_is) (record { good = t.good; does = t.does; none_left = t.none_left })

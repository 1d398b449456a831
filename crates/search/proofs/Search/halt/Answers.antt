-- The goal's line is read inside the book. Assumes nothing.
use Rattle.std.proofs.Common.{sym, ap, ◌∙◌, arith}
use Rattle.std.specs.Option.{option_copied}
use Rattle.frontier.specs.Trees.{next_goal_lem}
use Rattle.search.specs.Parts.{tree_of}
use Rattle.search.specs.declared.Search.{Search}
use Rattle.search.proofs.Advance.{goal_inside}
use Rattle.search.proofs.Search.halt.Goals as goal

pub line-requires : goal.line-requires
line-requires g c =
    let e = c.self.view_is in
    let now = ap tree_of (sym (ap option_copied c.unwrap-tree.ensures) ∙ c.as_ref.ensures.value) in
    let posed = ap (λ (s : Search _). s.posed) e ∙ c.requires.posed in
    let going = ap (λ (s : Search _). s.over) e ∙ c.requires.going in
    omega (arith, c.next_goal.ensures, ap next_goal_lem now, goal_inside g.B.Bank.view _ c.self.invariant posed going)

use Rattle.std.proofs.Common.{sym, ap, ◌∙◌, arith}
use Rattle.std.proofs.lemmas.Result.{err_from_is_err_and}
use Rattle.std.specs.Option.{option_copied_mut}
use Rattle.search.specs.Parts.{tree_of}
use Rattle.search.proofs.Advance.{may_step, stepped, no_more, step_ready}
use Rattle.search.proofs.Runs.{same_good, same_none_left}
use Rattle.search.proofs.Search.advance.Goals as goal

pub step-requires : goal.step-requires
step-requires g c =
    let may = may_step c.self.view_is c.requires.posed c.requires.going c.requires.empty in
    let now = ap tree_of (sym (ap option_copied_mut c.unwrap-tree.ensures) ∙ c.as_mut.ensures.value) in
    rw now (record {
      room = omega (arith, c.self.invariant.pool, c.self.invariant.room);
      ready = step_ready g.B.Bank.view _ c.self.invariant may;
    })

pub invariant_of-self : goal.invariant_of-self
invariant_of-self g c =
    let may = may_step c.self.view_is c.requires.posed c.requires.going c.requires.empty in
    let now = ap tree_of (sym (ap option_copied_mut c.unwrap-tree.ensures) ∙ c.as_mut.ensures.value) in
    let e = c.in_err-made.ensures in
    same_good g.B.Bank.view _ _ (no_more g.B.Bank.view _ c.self.invariant may _ _ _ _ _ now e.does.0 e.does.1 e.kept e.cap).same c.self.invariant

pub invariant_of-self-2 : goal.invariant_of-self-2
invariant_of-self-2 g c =
    let may = may_step c.self.view_is c.requires.posed c.requires.going c.requires.empty in
    let now = ap tree_of (sym (ap option_copied_mut c.unwrap-tree.ensures) ∙ c.as_mut.ensures.value) in
    let e = c.in_ok-made.ensures in
    (stepped g.B.Bank.view _ _ _ _ _ _ _ _ c.self.invariant may now c.end_if.ensures e.does e.kept e.cap e.boxed.0).good

pub returns-in_err-made : goal.returns-in_err-made
returns-in_err-made g c =
    let p = err_from_is_err_and c.from_residual.result c.from_residual.ensures.1 in
    let may = may_step c.self.view_is c.requires.posed c.requires.going c.requires.empty in
    let now = ap tree_of (sym (ap option_copied_mut c.unwrap-tree.ensures) ∙ c.as_mut.ensures.value) in
    let e = c.in_err-made.ensures in
    let n = no_more g.B.Bank.view _ c.self.invariant may _ _ _ _ _ now e.does.0 e.does.1 e.kept e.cap in
    rw (p.1, p.2, ← c.self.view_is) (record { does = n; none_left = same_none_left g.B.Bank.view _ _ n.same })

pub returns : goal.returns
returns g c =
    let may = may_step c.self.view_is c.requires.posed c.requires.going c.requires.empty in
    let now = ap tree_of (sym (ap option_copied_mut c.unwrap-tree.ensures) ∙ c.as_mut.ensures.value) in
    let e = c.in_ok-made.ensures in
    let n = stepped g.B.Bank.view _ _ _ _ _ _ _ _ c.self.invariant may now c.end_if.ensures e.does e.kept e.cap e.boxed.0 in
    rw (← c.self.view_is) (record { does = n.does; none_left = n.none_left })

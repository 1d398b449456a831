-- Why `select` has the frame's variables, slot after slot.
use Rattle.std.proofs.Common.{ℕ, ◌<◌, ◌≤◌, List, [], ◌∷◌, ◌++◌, length, get_or, take, sym, ap, ◌∙◌, subst, add-one, arith, length-set, take-suc, take-suc-set}
use mathlib.Core.List.{map-append}
use Rattle.machine.specs.Machine.{vars_of_lem}
use Rattle.frontier.proofs.frame.select.Goals as goal

pub loop-i-preserved : goal.loop-i-preserved
loop-i-preserved g c =
    let vs = c.loop-i.variables in
    let ps = c.as_slice-places.result.now in
    let scope = c.as_slice-scope.result.now in
    let i = c.loop-i.i in
    let few : length ps ≤ g.row.N = subst (λ (xs : List ℕ). length xs ≤ g.row.N) (sym c.as_slice-places.ensures) c.requires.few in
    let in_vs : i < length vs = omega (arith, c.loop-i.invariant.0, c.loop-i-test.true) in
    let v = get_or ps i 0 in (
      length-set _ _ _ ∙ c.loop-i.invariant.0,
      rw add-one (
          take-suc-set vs i (get_or scope v 0) in_vs
          ∙ ap (λ (r : List ℕ). r ++ (get_or scope v 0 ∷ [])) c.loop-i.invariant.1
          ∙ sym (map-append (λ (s : ℕ). get_or scope s 0) (take i ps) (v ∷ []))
          ∙ ap (λ (r : List ℕ). vars_of_lem scope r) (sym (take-suc ps i 0 c.loop-i-test.true))),
    )

use Rattle.std.proofs.Common.{◌≡◌, ◌-◌, length, drop, ◌++◌, refl, ap, ◌∙◌, arith, length-take-le, length-append}
use Rattle.std.proofs.lemmas.List.{get_or_append_left, get_or-take}
use Rattle.trees.specs.Stores.{no_cell}
use Rattle.trees.proofs.Writing.{under, moved}
use Rattle.trees.proofs.joins.link.Goals as goal

pub returns : goal.returns
returns c =
    let r = c.args.r.now in
    let rest = drop (r.used - 0) r.cells in
    let n : length c.loop-cell.cells ≡ r.used = omega (arith, c.loop-cell.auto.cells, length-take-le (r.used - 0) r.cells (omega (arith, c.whole.ensures))) in
    moved r _ refl c.args.to c.args.form c.requires.second c.args.from c.requires.first (c.loop-cell.cells ++ rest) (omega (arith, n, length-append c.loop-cell.cells rest))
    (λ a l.
    get_or_append_left c.loop-cell.cells rest no_cell a (omega (arith, n)) ∙ c.loop-cell.invariant.0 a (omega arith)
    ∙ ap (under c.args.from c.args.to) (get_or-take (r.used - 0) r.cells a no_cell (omega arith)))
    refl

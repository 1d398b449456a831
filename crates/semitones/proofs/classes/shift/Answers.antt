-- One more cell moved by `shift`, and all of them.
use Rattle.std.proofs.Common.{◌≡◌, ◌+◌, ◌-◌, ◌<◌, ◌≤◌, List, length, get_or, take, drop, ℤ, sym, ap, refl, ◌∙◌, subst, arith, w32, to_z, of_z, length-take-le}
use lib.Signed.{mag}
use Rattle.std.proofs.lemmas.Int.{to_z-of_z}
use Rattle.std.proofs.lemmas.List.{get_or_append_left, get_or-take, set-get_or}
use Rattle.semitones.specs.declared.cells.Cell.{Cell}
use Rattle.semitones.specs.Cells.{no_cell}
use Rattle.semitones.specs.laws.Solves.{cell_in}
use Rattle.semitones.proofs.Moving.{Moving, moved, moving_yes, moving_no, moving_all, moved_as}
use Rattle.semitones.proofs.Told.{plain_sum}
use Rattle.semitones.proofs.classes.shift.Goals as goal
use Rattle.semitones.proofs.classes.shift.Goals.{then-cell-from, else-cell-from}

pub loop-cell-preserved : goal.loop-cell-preserved
loop-cell-preserved c =
    let r = c.args.r.now in
    let gap = to_z w32 (of_z w32 c.args.gap) in
    let cs : List Cell = take (r.used - 0) r.cells in
    let ds = c.loop-cell.cells in
    let i = c.loop-cell.cell-index in
    let M : Moving c.args.from c.args.to gap cs ds i = c.loop-cell.invariant in
    let l : i < r.used = omega (arith, c.loop-cell-test.true, length-take-le (r.used - 0) r.cells (omega (arith, c.requires.few, c.whole.ensures))) in
    let old : (get_or ds i no_cell).by ≡ (get_or r.cells i no_cell).by = ap (λ (x : Cell). x.by) (M.left i (omega arith) ∙ get_or-take (r.used - 0) r.cells i no_cell (omega arith)) in
    let small : mag (get_or ds i no_cell).by ≤ 1000000 = subst (λ (z : ℤ). mag z ≤ 1000000) (ap (λ (x : Cell). x.by) (cell_in r i l) ∙ sym old) (c.requires.far i) in
    elim c.if-cell-from.branch [
      | then-cell-from w ↦ subst (λ (x : List Cell). Moving c.args.from c.args.to gap cs x (i + 1)) (sym w.cells-is)
          (moving_yes c.args.from c.args.to gap cs ds i M _ (omega (arith, c.loop-cell.auto.cells, c.loop-cell-test.true)) w.if-cell-from.true
          (ap (λ (z : ℤ). record { root = c.args.to; by = z }) (plain_sum (get_or ds i no_cell).by c.args.gap small c.requires.little)))
      | else-cell-from w ↦ subst (λ (x : List Cell). Moving c.args.from c.args.to gap cs x (i + 1)) (sym (w.cells-is ∙ set-get_or ds i no_cell))
          (moving_no c.args.from c.args.to gap cs ds i M w.if-cell-from.false)
    ]

pub returns : goal.returns
returns c =
    let r = c.args.r.now in
    let gap = to_z w32 (of_z w32 c.args.gap) in
    let ds = c.loop-cell.cells in
    let rest = drop (r.used - 0) r.cells in
    let n : length (take (r.used - 0) r.cells) ≡ r.used - 0 = length-take-le (r.used - 0) r.cells (omega (arith, c.requires.few, c.whole.ensures)) in
    moved_as c.args.from c.args.to gap c.args.gap r _ (to_z-of_z w32 c.args.gap c.ranges.gap)
    (moving_all c.args.from c.args.to gap r _ refl
    (λ a l. get_or_append_left ds rest no_cell a (omega (arith, c.loop-cell.auto.cells, n)) ∙ c.loop-cell.invariant.done a (omega (arith, c.loop-cell-test.false, n))
    ∙ ap (moved c.args.from c.args.to gap) (get_or-take (r.used - 0) r.cells a no_cell (omega arith)))
    c.requires.few c.requires.inside)

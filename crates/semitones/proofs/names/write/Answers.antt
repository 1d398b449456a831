-- Why `write` writes the text of a variable.
use Rattle.std.proofs.Common.{◌-◌, List, ◌∷◌, ℕ, ℤ, decimal, ap, ◌∙◌, subst, w32, SFits, rules}
use Rattle.std.specs.Fmt.{signed_decimal}
use Rattle.std.proofs.lemmas.Int.{to_z-of_z}
use Rattle.texts.specs.Pieces.{Adds}
use Rattle.texts.proofs.Laying.{adds_then}
use Rattle.semitones.specs.declared.cells.Cell.{Cell}
use Rattle.semitones.specs.Cells.{apart}
use Rattle.semitones.proofs.Naming.{shown_number, shown_name}
use Rattle.semitones.proofs.names.write.Goals as goal

pub returns-then-cell-eq0 : goal.returns-then-cell-eq0
returns-then-cell-eq0 c =
    let cell = c.at-cell.result in
    let fits : SFits w32 cell.by = search rules in
    let is = c.at-cell.ensures in
    subst (λ (t : List ℕ). Adds t c.args.text.now c.put_signed.new.self)
    (ap signed_decimal (to_z-of_z w32 cell.by fits) ∙ shown_number c.args.r.now c.args.var cell.root cell.by (ap (λ (x : Cell). x.root) is) (ap (λ (x : Cell). x.by) is) c.if-cell-eq0.true)
    c.put_signed.ensures

pub returns-else-cell-eq0 : goal.returns-else-cell-eq0
returns-else-cell-eq0 c =
    let cell = c.at-cell.result in
    let fits : SFits w32 cell.by = search rules in
    let is = c.at-cell.ensures in
    let tail = subst (λ (z : ℤ). Adds (apart z) c.put_after.new.self c.put_apart.new.text) (to_z-of_z w32 cell.by fits) c.put_apart.ensures in
    subst (λ (t : List ℕ). Adds t c.args.text.now c.put_apart.new.text)
    (shown_name c.args.r.now c.args.var cell.root cell.by (ap (λ (x : Cell). x.root) is) (ap (λ (x : Cell). x.by) is) c.if-cell-eq0.false)
    (adds_then (95 ∷ decimal (cell.root - 1)) (apart cell.by) c.args.text.now c.put_after.new.self c.put_apart.new.text c.put_after.ensures tail)

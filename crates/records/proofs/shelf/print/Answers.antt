-- Why `print` writes the text, or zeroes the part.
use Rattle.std.proofs.Common.{◌≡◌, ℕ, ◌<◌, List, [], get_or, sym, ap, ◌∙◌, arith, rules}
use Rattle.texts.proofs.Laying.{written}
use Rattle.records.specs.Slots.{means}
use Rattle.records.proofs.Places.{live_within, noted_is}
use Rattle.records.proofs.Printing.{prints}
use Rattle.records.proofs.shelf.print.Goals as goal

pub returns : goal.returns
returns g c spare =
    let S = g.R.Stored in
    let slots = c.args.slots.now in
    let s = c.args.store in
    let x = c.args.var in
    let p = c.args.part.now in
    let past = c.index-slots-at.result in
    let stands = c.in_ok-at.ensures in
    let m = means S.solutions S.text slots spare in
    let is : m.text s x ≡ S.text (get_or slots c.in_ok-at.at past).record x =
    ap (λ (f : ℕ → List ℕ). f x) (noted_is slots s (λ x. []) S.text past (live_within slots s stands.1)) ∙ ap (λ (i : ℕ). S.text (get_or slots i past).record x) (sym stands.0) in
    let within : x < S.V = omega (arith, c.if-var-V.false, c.V.ensures) in
    let says = written p _ _ c.finish.result c.new-writer.result c.write.new.writer c.new-writer.ensures.begun c.write.ensures c.finish.ensures in
    let printed = prints S.V m s x p _ _ stands.1 within is c.finish.result says in
    search rules

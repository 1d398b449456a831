-- The line grows by a field, or is refused.
use Rattle.std.proofs.Common.{◌∙◌, Ok, Err}
use Rattle.std.proofs.lemmas.Result.{err_from_is_err_and}
use Rattle.answer_line.specs.Lines.{PutsField}
use Rattle.answer_line.proofs.Laying.{line_put, fields_refused}
use Rattle.answer_line.proofs.Line.put_fields.Goals as goal

pub loop-var-preserved : goal.loop-var-preserved
loop-var-preserved g c =
    let s = c.args.self.now in
    let text = (g.B.Bank.view.meaning s.bank.now).text s.store in
    let i = c.loop-var.invariant in
    let e = c.in_ok-put_field.ensures in
    let q : PutsField text c.loop-var.var c.loop-var.self.end c.loop-var.self.bytes.now c.put_field.new.self.bytes.now (Ok c.put_field.new.self.end) =
    rw (← i.1, ← i.2) e.puts in
    (e.lender ∙ i.0, e.source.0 ∙ i.1, e.source.1 ∙ i.2, line_put text c.loop-var.var _ _ _ c.loop-var.self.bytes.now _ i.3 q)

pub returns-in_err-put_field-clause-puts : goal.returns-in_err-put_field-clause-puts
returns-in_err-put_field-clause-puts g c =
    let p = err_from_is_err_and c.from_residual.result c.from_residual.ensures.1 in
    let s = c.args.self.now in
    let text = (g.B.Bank.view.meaning s.bank.now).text s.store in
    let i = c.loop-var.invariant in
    let q : PutsField text c.loop-var.var c.loop-var.self.end c.loop-var.self.bytes.now c.put_field.new.self.bytes.now (Err c.in_err-put_field.field-0.0) =
    rw (← i.1, ← i.2) c.in_err-put_field.ensures.puts in
    rw (p.1, p.2)
    (fields_refused text c.loop-var.var _ c.loop-var.self.end s.bytes.now c.loop-var.self.bytes.now c.put_field.new.self.bytes.now _
    c.loop-var-test.true i.3 q)

-- The first field is a text, and each other a comma and a text.
use Rattle.std.proofs.Common.{arith}
use Rattle.answer_line.specs.Lines.{PutsText, ended}
use Rattle.answer_line.proofs.Laying.{first_field, next_field}
use Rattle.answer_line.proofs.Line.put_field.Goals.{then-var-gt0+in_ok-put_comma, else-var-gt0}
use Rattle.answer_line.proofs.Line.put_field.Goals as goal

pub returns-clause-puts : goal.returns-clause-puts
returns-clause-puts g c =
    let s = c.args.self.now in
    let text = (g.B.Bank.view.meaning s.bank.now).text s.store in
    let end = c.put_text.new.self.end in
    elim c.if-var-gt0.branch [
      | then-var-gt0+in_ok-put_comma w ↦
          let t = w.put_comma.new.self in
          let q : PutsText (text c.args.var) t.end t.bytes.now c.put_text.new.self.bytes.now (ended end c.put_text.result) =
          rw (← w.put_comma.ensures.source.0, ← w.put_comma.ensures.source.1, ← w.self-is) c.put_text.ensures.puts in
          next_field text c.args.var _ _ s.bytes.now t.bytes.now _ _ (omega (arith, w.if-var-gt0.true)) s.room w.in_ok-put_comma.ensures.puts q
      | else-var-gt0 w ↦
          first_field text c.args.var _ _ _ _ (omega (arith, w.if-var-gt0.false)) (rw (← w.self-is) c.put_text.ensures.puts)
    ]

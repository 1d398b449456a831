-- The text stands at the place, or there was no room for it.
use Rattle.std.proofs.Common.{arith}
use Rattle.std.proofs.lemmas.Result.{err_from_is_err_and}
use Rattle.answer_line.proofs.Laying.{put_text_lem, text_refused}
use Rattle.answer_line.proofs.Line.put_text.Goals as goal

pub returns-in_err-len-clause-puts : goal.returns-in_err-len-clause-puts
returns-in_err-len-clause-puts g c =
    let p = err_from_is_err_and c.from_residual.result c.from_residual.ensures.1 in
    rw (p.1, p.2)
    (text_refused _ (g.B.Bank.view.meaning c.args.self.now.bank.now) _ _ _ c.args.self.now.bytes.now c.print.new.part _
    c.args.self.now.live (omega (arith, g.B.Bank.view.laws.wide)) c.args.self.now.within c.args.self.now.room c.in_err-len.ensures)

pub returns-clause-puts : goal.returns-clause-puts
returns-clause-puts g c =
    put_text_lem _ (g.B.Bank.view.meaning c.args.self.now.bank.now) _ _ _ c.args.self.now.bytes.now c.print.new.part _
    c.args.self.now.within c.args.self.now.room c.in_ok-len.ensures

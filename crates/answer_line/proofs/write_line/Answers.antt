-- The line stands, or was cleared.
use Rattle.std.proofs.Common.{Err, refl, arith, rules}
use Rattle.answer_line.specs.Lines.{WritesLine}
use Rattle.answer_line.proofs.Laying.{line_cleared}
use Rattle.answer_line.proofs.Telling.{fields_tell}
use Rattle.answer_line.proofs.write_line.Goals as goal

pub returns-in-Err-clause-writes : goal.returns-in-Err-clause-writes
returns-in-Err-clause-writes g c =
    let m = g.B.Bank.view.meaning c.args.bank.now in
    let writes : WritesLine m c.args.store c.args.count c.args.buffer.now c.clear.new.self.bytes.now (Err c.in-Err.o) =
    line_cleared m c.args.store c.args.count c.args.buffer.now c.put_fields.new.self.bytes.now _ (Err c.in-Err.o)
    c.in-Err.ensures.puts refl c.clear.ensures.cleared in
    search (writes, rules)

pub returns-in-Err-clause-tells : goal.returns-in-Err-clause-tells
returns-in-Err-clause-tells g c = fields_tell g.B.Bank.view c.args.bank.now _ _ c.requires.live (omega (arith, g.B.Bank.view.laws.wide))

pub returns-clause-tells : goal.returns-clause-tells
returns-clause-tells g c = fields_tell g.B.Bank.view c.args.bank.now _ _ c.requires.live (omega (arith, g.B.Bank.view.laws.wide))

-- The line of the variables that were passed stands at the front.
use Rattle.std.specs.Prelude.{◌≡◌}
use Rattle.answer_line.specs.Lines.{line_of, Put}
use Rattle.answer_line.proofs.Line.put_fields.Given as goal

abbrev pub invariant-loop-var : goal.invariant-loop-var
invariant-loop-var g l =
    (l.self.bytes.ghost_name ≡ l.initial.self.bytes.ghost_name) × (l.self.bank ≡ l.initial.self.bank) × (l.self.store ≡ l.initial.self.store)
    × Put (line_of ((g.B.Bank.view.meaning l.initial.self.bank.now).text l.initial.self.store) l.var) 0 l.initial.self.bytes.now l.self.bytes.now l.self.end

-- With its line passed, the cursor is before the next line or at the end.
use Rattle.std.proofs.Common.{sym, ap, ◌∙◌}
use Rattle.std.proofs.lemmas.Bool.{eqb-true}
use Rattle.fields.specs.Cursor.{here, later}
use Rattle.fields.proofs.Moves.{outside, before_end, line_end, line_next}
use Rattle.fields.proofs.Fields.next_line.Goals as goal

pub returns-then-is_at_end : goal.returns-then-is_at_end
returns-then-is_at_end c =
    let gave = c.in_default.ensures.steps in
    let past = c.loop.invariant in
    record { does = line_end c.args.self.now c.next.new.self (ap later gave.1 ∙ past.0) (ap (λ f. f.line) gave.1 ∙ past.1) (ap here gave.1 ∙ gave.0) (eqb-true _ _ (sym c.is_at_end.ensures ∙ c.if-is_at_end.true)) }

pub begin-requires : goal.begin-requires
begin-requires c =
    let gave = c.in_default.ensures.steps in
    record { between = outside c.next.new.self (ap here gave.1 ∙ gave.0); more = before_end c.next.new.self (sym c.is_at_end.ensures ∙ c.if-is_at_end.false) }

pub returns : goal.returns
returns c =
    let g = c.next.new.self in
    let gave = c.in_default.ensures.steps in
    let past = c.loop.invariant in
    let begun = c.begin.ensures in
    let more = before_end g (sym c.is_at_end.ensures ∙ c.if-is_at_end.false) in
    record { does = line_next c.args.self.now g c.begin.new.self (ap later gave.1 ∙ past.0) (ap (λ f. f.line) gave.1 ∙ past.1) (ap here gave.1 ∙ gave.0) more begun.place begun.inside begun.line begun.given }

-- The law of one line follows from the equation of what is read.
use Rattle.std.proofs.Common.{◌≡◌, true, false, length, sym, ap, ◌∙◌, subst}
use Rattle.fields.specs.Cursor.{here}
use Rattle.line.specs.Moves.{Stays}
use Rattle.line.specs.Reading.{takes, Exact}
use Rattle.line.proofs.Exactly.{exact}
use Rattle.line.proofs.Outcomes.{outcome_numbered, outcome_count}
use Rattle.line.proofs.read.read_line.Goals as goal

pub returns-then-not-takes : goal.returns-then-not-takes
returns-then-not-takes c =
    let n = c.args.fields.now.given in
    let fs = here c.args.fields.now in
    let word = c.in_ok-word.ensures in
    let count : takes c.in_ok-word.word (length (here c.next_word.new.fields)) ≡ false = ap (takes c.in_ok-word.word) (sym c.left.ensures) ∙ sym c.if-not-takes.ensures in
    let does = sym (outcome_count n c.next_word.new.fields.given fs (here c.next_word.new.fields) c.in_ok-word.word word.does word.next.behind word.next.number count) in
    record { does = does; exact = subst (Exact fs) (sym does) (exact n fs); rest = word.rest }

pub returns : goal.returns
returns c =
    let n = c.args.fields.now.given in
    let fs = here c.args.fields.now in
    let word = c.in_ok-word.ensures in
    let numbers = c.numbers_behind.ensures in
    let count : takes c.in_ok-word.word (length (here c.next_word.new.fields)) ≡ true = ap (takes c.in_ok-word.word) (sym c.left.ensures) ∙ sym c.if-not-takes.ensures in
    let does = numbers.does ∙ sym (outcome_numbered n c.next_word.new.fields.given fs (here c.next_word.new.fields) c.in_ok-word.word word.does word.next.behind word.next.number count) in
    let rest : Stays c.args.fields.now c.numbers_behind.new.fields = record { behind = numbers.rest.behind ∙ word.rest.behind; number = numbers.rest.number ∙ word.rest.number } in
    record { does = does; exact = subst (Exact fs) (sym does) (exact n fs); rest = rest }

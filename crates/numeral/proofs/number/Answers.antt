-- A field that begins as a number does is what `scan` reads in it, and another is none.
use Rattle.numeral.proofs.number.Goals as goal
use Rattle.std.proofs.Common.{Some, None, sym, ◌∙◌, arith}
use Rattle.std.proofs.lemmas.List.{at_drop_all}
use Rattle.numeral.specs.Steps.{scan}
use Rattle.numeral.proofs.Digits.{scan_reads, scan_more, scan_stops, unled_reads}
use Rattle.numeral.proofs.Numbers.{reads_is}

pub returns-then-not-leads : goal.returns-then-not-leads
returns-then-not-leads c =
    let reads = unled_reads c.args.max c.args.field.now (omega arith) (sym c.if-not-leads.ensures) in
    record { value = reads_is c.args.max c.args.field.now None (omega arith) reads; reads = reads }

pub returns-in_err-value : goal.returns-in_err-value
returns-in_err-value c =
    let stops = scan_stops c.args.max c.loop-digit.value c.args.field.now c.loop-digit.digit-index c.loop-digit-test.true c.in_err-value.ensures in
    let none = c.from_residual.ensures in
    let reads = scan_reads c.args.max c.args.field.now c.from_residual.result (omega arith) (sym c.if-not-leads.ensures) (none ∙ sym stops ∙ c.loop-digit.invariant) in
    record { value = reads_is c.args.max c.args.field.now c.from_residual.result (omega arith) reads; reads = reads }

pub loop-digit-preserved : goal.loop-digit-preserved
loop-digit-preserved c =
    sym (scan_more c.args.max c.loop-digit.value c.args.field.now c.loop-digit.digit-index c.in_ok-value.value c.loop-digit-test.true c.in_ok-value.ensures) ∙ c.loop-digit.invariant

pub returns : goal.returns
returns c =
    let end = at_drop_all (scan c.args.max c.loop-digit.value) c.args.field.now c.loop-digit.digit-index c.loop-digit-test.false in
    let reads = scan_reads c.args.max c.args.field.now (Some c.loop-digit.value) (omega arith) (sym c.if-not-leads.ensures) (sym end ∙ c.loop-digit.invariant) in
    record { value = reads_is c.args.max c.args.field.now (Some c.loop-digit.value) (omega arith) reads; reads = reads }

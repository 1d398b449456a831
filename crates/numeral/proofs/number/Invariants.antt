-- What is left to read answers what the whole field does.
use Rattle.std.proofs.Common.{◌≡◌, drop}
use Rattle.numeral.specs.Steps.{scan}
use Rattle.numeral.proofs.number.Given as goal

abbrev pub invariant-loop-digit : goal.invariant-loop-digit
invariant-loop-digit l = scan l.max l.value (drop l.digit-index l.field) ≡ scan l.max 0 l.field

-- The lines behind this one stay to come while its fields are passed.
use Rattle.std.proofs.Common.{◌≡◌, length}
use Rattle.fields.specs.Cursor.{here, later}
use Rattle.fields.proofs.Fields.next_line.Given as goal

abbrev pub invariant-loop : goal.invariant-loop
invariant-loop l = (later l.self ≡ later l.initial.self) × (l.self.line ≡ l.initial.self.line)

abbrev pub decreases-loop : goal.decreases-loop
decreases-loop l = length (here l.self)

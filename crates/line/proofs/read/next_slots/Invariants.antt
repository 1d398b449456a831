-- What is left to read answers, behind the slots so far, what the whole line does.
use Rattle.std.proofs.Common.{◌≡◌, ◌+◌, ◌≤◌, [], length}
use Rattle.fields.specs.Cursor.{here}
use Rattle.row.specs.Shorts.{items}
use Rattle.line.specs.Moves.{Stays}
use Rattle.line.specs.Reading.{as_slots}
use Rattle.line.proofs.read.next_slots.Given as goal

abbrev pub invariant-loop-field : goal.invariant-loop-field
invariant-loop-field g l =
    (as_slots l.fields.given (items l.slots) (here l.fields) ≡ as_slots l.initial.fields.given [] (here l.initial.fields)) × (length (items l.slots) + length (here l.fields) ≤ g.row.N) × Stays l.initial.fields l.fields

abbrev pub decreases-loop-field : goal.decreases-loop-field
decreases-loop-field g l = length (here l.fields)

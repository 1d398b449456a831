use Rattle.std.proofs.Common.{length}
use Rattle.fields.specs.Cursor.{later}
use Rattle.book.proofs.Gathering.{Gathers}
use Rattle.book.proofs.read.gather.Given as goal

abbrev pub invariant-loop-line : goal.invariant-loop-line
invariant-loop-line l = Gathers l.text l.gathering l.fields

abbrev pub decreases-loop-line : goal.decreases-loop-line
decreases-loop-line l = length (later l.fields)

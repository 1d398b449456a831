-- What the loop of `shift` keeps: the cells so far are moved.
use Rattle.semitones.proofs.Moving.{Moving}
use Rattle.semitones.proofs.classes.shift.Given as goal

abbrev pub invariant-loop-cell : goal.invariant-loop-cell
invariant-loop-cell l = Moving l.from l.to l.gap l.initial.cells l.cells l.cell-index

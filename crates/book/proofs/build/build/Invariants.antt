-- The lines are met from the last to the first.
use Rattle.std.proofs.Common.{◌≡◌}
use Rattle.book.proofs.Built.{Built}
use Rattle.book.proofs.build.build.Given as goal

abbrev pub invariant-loop-at : goal.invariant-loop-at
invariant-loop-at l = record {
  steps : (goal.iterator-loop-at).can_next l.at-iterator;
  ends : (goal.iterator-loop-at).is_finite l.at-iterator;
  counted : l.at-iterator.iter.count ≡ 0;
  built : Built l.draft l.at-iterator.iter.iter.rest.now l.table l.rules l.roots;
}

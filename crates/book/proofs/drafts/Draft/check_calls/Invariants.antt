use Rattle.std.proofs.Common.{◌≡◌, ◌+◌, drop}
use Rattle.book.specs.Drafts.{entries}
use Rattle.book.specs.Reading.{heads, misfit}
use Rattle.book.proofs.drafts.Draft.check_calls.Given as goal

abbrev pub invariant-loop-i : goal.invariant-loop-i
invariant-loop-i l = misfit (heads (entries l.self)) (l.i + 1) (drop l.i (entries l.self)) ≡ misfit (heads (entries l.self)) 1 (entries l.self)

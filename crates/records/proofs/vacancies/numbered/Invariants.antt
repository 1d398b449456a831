-- What the loop of `numbered` keeps: the numbers so far count down.
use Rattle.std.proofs.Common.{◌≡◌, ℕ, ◌-◌, ◌<◌, length, get_or}
use Rattle.records.proofs.vacancies.numbered.Given as goal

abbrev pub invariant-loop-i : goal.invariant-loop-i
invariant-loop-i l = (length l.numbers ≡ 1024) × ((k : ℕ) → k < l.i → get_or l.numbers k 0 ≡ l.count - 1 - k)

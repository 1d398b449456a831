-- The number of each refusal. Assumes nothing.
use Rattle.std.specs.Prelude.{ℕ}
use Rattle.bank.specs.declared.Refusal.{Refusal}
use Rattle.bank.specs.declared.Refusal.TheVariants.{NotLive, NoSpare, BadConstraint, BadVariable, Contradiction, TextTooLong}

abbrev pub number : Refusal → ℕ
number NoSpare = 31
number NotLive = 32
number Contradiction = 33
number BadConstraint = 34
number BadVariable = 35
number TextTooLong = 36

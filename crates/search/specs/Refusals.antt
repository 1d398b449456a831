-- The number of each refusal, and the refusal of a run whose next step cannot be made. Assumes nothing.
use Rattle.std.specs.Prelude.{ℕ}
use Rattle.search.specs.declared.refusal.Halt.{Halt}
use Rattle.search.specs.declared.refusal.Refusal.{Refusal}
use Rattle.search.specs.declared.refusal.Refusal.TheVariants.{NoSuchRule, UnknownTell, NoStock, NothingPosed, AnswerWaits, TooManySteps, TooManyNodes, NoVariable, NoStore, NoAnswer, ShortBuffer, LineTooLong}
use Rattle.frontier.specs.declared.stop.Stop.{Stop}
use Rattle.frontier.specs.declared.stop.Stop.TheVariants.{Nodes, Variables, Stores}

abbrev pub number : Refusal → ℕ
number NoSuchRule = 11
number (UnknownTell line) = 12
number (NoStock e) = 13
number NothingPosed = 14
number AnswerWaits = 15
number TooManySteps = 16
number (TooManyNodes h) = 17
number (NoVariable h) = 18
number (NoStore h e) = 19
number NoAnswer = 20
number ShortBuffer = 21
number (LineTooLong o) = 22

abbrev pub halted : Stop → Halt → Refusal
halted Nodes h = TooManyNodes h
halted Variables h = NoVariable h
halted (Stores e) h = NoStore h e

-- What a refusal prints. Assumes nothing.
--
--   explained   what is wrong, and what is expected in its place
--   reported    the line of a refusal: the number of its cause, its line and its field
use Rattle.std.specs.Prelude.{ℕ, List, ◌++◌, codes, decimal}
use Rattle.book.specs.declared.refusal.Cause.{Cause}
use Rattle.book.specs.declared.refusal.Cause.TheVariants.{TextTooLong, UnknownWord, FieldCount, BadNumber, GoalNotAwaited, RuleTooEarly, TextEnds, TooManyRules, TooManyGoals, TooManySlots, NotInScope, NoSuchRule, SlotCount}
use Rattle.book.specs.declared.refusal.Refusal.{Refusal}
use Rattle.book.specs.Reading.{number}

abbrev pub explained : Cause → List ℕ
explained TextTooLong = codes "the text is too long; a book has at most 65,536 bytes"
explained UnknownWord = codes "the line begins with no known word; expected rule, and, or, new, call or tell"
explained FieldCount = codes "the line has a wrong count of fields; expected rule,p or call,r with 0 to 16 slots or tell,c,k with 0 to 3 slots, and nothing behind and, or and new"
explained BadNumber = codes "the field is no number in range; expected digits without plus or leading zero: p 0 to 16, r 0 to 63, c 0 to 255, k -1000 to 1000, a slot 0 to 15"
explained GoalNotAwaited = codes "a goal stands here, but the rule before has its goal already; expected rule,p"
explained RuleTooEarly = codes "a rule begins here, but the one before lacks a goal; expected and, or, new, call or tell"
explained TextEnds = codes "the text ends here, but a goal is still awaited; expected and, or, new, call or tell"
explained TooManyRules = codes "this is the 65th rule; a book has at most 64"
explained TooManyGoals = codes "this is the 1,025th goal; a book has at most 1,024"
explained TooManySlots = codes "this is the 17th slot in scope; a goal has at most 16"
explained NotInScope = codes "the slot is not in scope here; expected one of the rule's parameters or of the new slots around this goal"
explained NoSuchRule = codes "there is no rule with this number; rules count from 0"
explained SlotCount = codes "the call gives the rule another number of slots than it has parameters"

abbrev pub reported : Refusal → List ℕ
reported e = codes "refused," ++ (decimal (number e.cause) ++ (codes "," ++ (decimal e.line ++ (codes "," ++ decimal e.field))))

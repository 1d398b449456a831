-- What a draft of the code stands for. Only private functions cite this file. Assumes nothing.
--
--   entry_of    a line of the draft as the definitions have it
--   entries     the lines of a draft
--   rules       how many of them are the heads of rules
--   goals       how many are goals
--   state_of    a draft and the scopes awaited, as the state of the check
--   opened      what is awaited after a goal line, or why it cannot stand
--   placed_by   the code's answer to a line, as the definitions have it
use Rattle.std.specs.Prelude.{ℕ, ◌+◌, ◌-◌, cond, List, ◌∷◌, map, length, Some, None, Ok, Err, Option, Result, nat_lt, slice_index}
use Rattle.row.specs.Shorts.{items}
use Rattle.line.specs.declared.Fault.{Fault}
use Rattle.line.specs.Reading.{Outcome, said, wrong}
use Rattle.line.specs.Statements.{Statement, a_rule, a_tell, an_and, an_or, a_new, a_call}
use Rattle.book.specs.declared.drafts.Draft.{Draft}
use Rattle.book.specs.declared.refusal.Barred.{Barred}
use Rattle.book.specs.declared.refusal.Refusal.{Refusal}
use Rattle.book.specs.declared.refusal.Cause.{Cause}
use Rattle.book.specs.declared.refusal.Cause.TheVariants.{RuleTooEarly, TooManySlots, NotInScope}
use Rattle.book.specs.declared.Book.{Book}
use Rattle.book.specs.Lists.{entry_of}
use Rattle.book.specs.Meaning.{meaning}
use Rattle.book.specs.Reading.{Entry, State, Placed, placed, barred, stray, Misfit, fitting, misfit_at, Checked, passed, stopped, cause_of, field_of, place, Reading, book, refused}

abbrev pub entries : Draft → List Entry
entries d = map entry_of (items d.listed)

abbrev pub rules : Draft → ℕ
rules d = length (items d.params)

abbrev pub goals : Draft → ℕ
goals d = length (items d.listed) - rules d

abbrev pub state_of : Draft → List ℕ → State
state_of d awaited = record { entries = entries d; rules = rules d; goals = goals d; awaited = awaited }

-- the goals awaited after a line that stands where one was awaited, or why it cannot stand
pub data Opened : Type 0 where
  opens : List ℕ → Opened
  cannot : Cause → ℕ → Opened

abbrev pub slots_open : List ℕ → Option ℕ → Opened
slots_open others None = opens others
slots_open others (Some field) = cannot NotInScope field

abbrev pub opened : Statement → ℕ → List ℕ → Opened
opened (a_rule p) scope others = cannot RuleTooEarly 1
opened (a_tell code k slots) scope others = slots_open others (stray scope 3 slots)
opened an_and scope others = opens (scope ∷ scope ∷ others)
opened an_or scope others = opens (scope ∷ scope ∷ others)
opened a_new scope others = cond (nat_lt scope 16) (opens ((scope + 1) ∷ others)) (cannot TooManySlots 1)
opened (a_call r slots) scope others = slots_open others (stray scope 2 slots)

-- the code's answers
abbrev pub opened_by : Result (Unit {0}) Barred → List ℕ → Opened
opened_by (Ok u) awaited = opens awaited
opened_by (Err b) awaited = cannot b.cause b.field

abbrev pub strayed : Result (Unit {0}) Barred → Option ℕ
strayed (Ok u) = None
strayed (Err b) = Some b.field

abbrev pub placed_by : Result (Unit {0}) Barred → State → Placed
placed_by (Ok u) t = placed t
placed_by (Err b) t = barred b.cause b.field

-- the number of parameters of rule r, where the rules have so many each
abbrev pub head_at : List ℕ → ℕ → Option ℕ
head_at hs r = cond (nat_lt r (length hs)) (Some (slice_index hs r)) None

abbrev pub misfitted : Result (Unit {0}) Refusal → Misfit
misfitted (Ok u) = fitting
misfitted (Err e) = misfit_at e.cause e.line

abbrev pub gathered : Result Draft Refusal → Checked
gathered (Ok d) = passed (entries d)
gathered (Err e) = stopped e.cause e.line e.field

abbrev pub parsed : Result Book Refusal → Reading
parsed (Ok b) = book (meaning b)
parsed (Err e) = refused e.cause e.line e.field

abbrev pub barred_by : Fault → Barred
barred_by fault = record { cause = cause_of fault; field = field_of fault }

-- a line that was read or not, where a state stands
abbrev pub taken : State → Outcome → Placed
taken s (wrong fault) = barred (cause_of fault) (field_of fault)
taken s (said st) = place s st

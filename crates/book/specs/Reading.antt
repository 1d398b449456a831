-- What the reader answers to a text. Assumes nothing.
--
--   number     the number of a cause
--   State      what was read so far, and the goals that are awaited, each by its scope
--   place      one more line, or why it cannot stand here
--   check      the lines in order, up to the first that is refused
--   misfit     the first call that does not fit its rule
--   forest     the rules that the lines make, from the last line up
--   reading    the book that a text is, or the refusal with its line and its field
--   answered   the code's answer as a reading
--   ReadsBooks a text is read exactly if it is that of a book, and then as this book
use Rattle.std.specs.Prelude.{◌≡◌, ℕ, ◌+◌, cond, List, [], ◌∷◌, ◌++◌, length, Some, None, Ok, Err, Option, Result, ◌==◌, nat_lt, slice_index}
use Rattle.fields.specs.Cutting.{lines, fields}
use Rattle.line.specs.declared.Fault.{Fault}
use Rattle.line.specs.declared.Fault.TheVariants.{UnknownWord as NoWord, FieldCount as WrongCount, BadNumber as NoNumber}
use Rattle.line.specs.Reading.{said, wrong, outcome}
use Rattle.line.specs.Statements.{Statement, a_rule, a_tell, an_and, an_or, a_new, a_call}
use Rattle.book.specs.declared.refusal.Cause.{Cause}
use Rattle.book.specs.declared.refusal.Cause.TheVariants.{TextTooLong, UnknownWord, FieldCount, BadNumber, GoalNotAwaited, RuleTooEarly, TextEnds, TooManyRules, TooManyGoals, TooManySlots, NotInScope, NoSuchRule, SlotCount}
use Rattle.book.specs.declared.refusal.Refusal.{Refusal}
use Rattle.book.specs.Language.{Goal, tell, conj, disj, fresh, call, Rules, nothing}
use Rattle.book.specs.Listing.{Writes, IsBook}

abbrev pub number : Cause → ℕ
number TextTooLong = 1
number UnknownWord = 2
number FieldCount = 3
number BadNumber = 4
number GoalNotAwaited = 5
number RuleTooEarly = 5
number TextEnds = 5
number TooManyRules = 6
number TooManyGoals = 6
number TooManySlots = 6
number NotInScope = 7
number NoSuchRule = 8
number SlotCount = 8

-- what is wrong with a line by itself, as a cause with the number of its field
abbrev pub cause_of : Fault → Cause
cause_of NoWord = UnknownWord
cause_of WrongCount = FieldCount
cause_of (NoNumber field) = BadNumber

abbrev pub field_of : Fault → ℕ
field_of NoWord = 1
field_of WrongCount = 1
field_of (NoNumber field) = field

-- a line with the number of slots in scope where it stands
pub record Entry : Type 0 where
  pub says : Statement
  pub scope : ℕ

pub record State : Type 0 where
  pub entries : List Entry
  pub rules : ℕ
  pub goals : ℕ
  pub awaited : List ℕ

abbrev pub start : State
start = record { entries = []; rules = 0; goals = 0; awaited = [] }

pub data Placed : Type 0 where
  placed : State → Placed
  barred : Cause → ℕ → Placed

-- the field of the first slot that is not in scope; n is the number of the field before these slots
abbrev pub stray : ℕ → ℕ → List ℕ → Option ℕ
stray scope n [] = None
stray scope n (x ∷ xs) = cond (nat_lt x scope) (stray scope (n + 1) xs) (Some (n + 1))

-- a goal that was awaited first, with those that are then awaited
abbrev pub goal_placed : State → Statement → ℕ → List ℕ → Placed
goal_placed s st scope awaited = placed (record { entries = s.entries ++ record { says = st; scope = scope } ∷ []; rules = s.rules; goals = s.goals + 1; awaited = awaited })

-- the same for a goal with slots
abbrev pub slots_placed : State → Statement → ℕ → List ℕ → Option ℕ → Placed
slots_placed s st scope awaited None = goal_placed s st scope awaited
slots_placed s st scope awaited (Some field) = barred NotInScope field

abbrev pub rule_placed : State → ℕ → Placed
rule_placed s p = placed (record { entries = s.entries ++ record { says = a_rule p; scope = p } ∷ []; rules = s.rules + 1; goals = s.goals; awaited = p ∷ [] })

abbrev pub place_rule_lem : State → ℕ → List ℕ → Placed
place_rule_lem s p [] = cond (nat_lt s.rules 64) (rule_placed s p) (barred TooManyRules 1)
place_rule_lem s p (a ∷ more) = barred RuleTooEarly 1

-- a goal line, where a goal with so many slots in scope is awaited before the others
abbrev pub place_in : State → Statement → ℕ → List ℕ → Placed
place_in s (a_rule p) scope others = place_rule_lem s p (scope ∷ others)
place_in s (a_tell code k slots) scope others = slots_placed s (a_tell code k slots) scope others (stray scope 3 slots)
place_in s an_and scope others = goal_placed s an_and scope (scope ∷ scope ∷ others)
place_in s an_or scope others = goal_placed s an_or scope (scope ∷ scope ∷ others)
place_in s a_new scope others = cond (nat_lt scope 16) (goal_placed s a_new scope ((scope + 1) ∷ others)) (barred TooManySlots 1)
place_in s (a_call r slots) scope others = slots_placed s (a_call r slots) scope others (stray scope 2 slots)

abbrev pub place_goal_lem : State → Statement → List ℕ → Placed
place_goal_lem s st [] = barred GoalNotAwaited 1
place_goal_lem s st (scope ∷ others) = cond (nat_lt s.goals 1024) (place_in s st scope others) (barred TooManyGoals 1)

abbrev pub place : State → Statement → Placed
place s (a_rule p) = place_rule_lem s p s.awaited
place s (a_tell code k slots) = place_goal_lem s (a_tell code k slots) s.awaited
place s an_and = place_goal_lem s an_and s.awaited
place s an_or = place_goal_lem s an_or s.awaited
place s a_new = place_goal_lem s a_new s.awaited
place s (a_call r slots) = place_goal_lem s (a_call r slots) s.awaited

pub data Checked : Type 0 where
  passed : List Entry → Checked
  stopped : Cause → ℕ → ℕ → Checked

-- the text has ended, and so many lines and one were read
abbrev pub closed : ℕ → State → List ℕ → Checked
closed line s [] = passed s.entries
closed line s (a ∷ more) = stopped TextEnds line 1

abbrev pub check : ℕ → State → List (List ℕ) → Checked
check line s [] = closed line s s.awaited
check line s (l ∷ ls) =
    elim (outcome 0 (fields l)) [ wrong fault ↦ stopped (cause_of fault) line (field_of fault) | said st ↦ elim (place s st) [ barred cause field ↦ stopped cause line field | placed t ↦ check (line + 1) t ls ] ]

-- how many parameters each rule has
abbrev pub heads : List Entry → List ℕ
heads [] = []
heads (e ∷ es) = elim e.says [ a_rule p ↦ p ∷ heads es | a_tell code k slots ↦ heads es | an_and ↦ heads es | an_or ↦ heads es | a_new ↦ heads es | a_call r slots ↦ heads es ]

-- why a line's call does not fit rules with so many parameters each
abbrev pub call_fault_lem : List ℕ → Statement → Option Cause
call_fault_lem ps (a_rule p) = None
call_fault_lem ps (a_tell code k slots) = None
call_fault_lem ps an_and = None
call_fault_lem ps an_or = None
call_fault_lem ps a_new = None
call_fault_lem ps (a_call r slots) = cond (nat_lt r (length ps)) (cond (length slots == slice_index ps r) None (Some SlotCount)) (Some NoSuchRule)

pub data Misfit : Type 0 where
  fitting : Misfit
  misfit_at : Cause → ℕ → Misfit

abbrev pub misfit : List ℕ → ℕ → List Entry → Misfit
misfit ps line [] = fitting
misfit ps line (e ∷ es) = elim (call_fault_lem ps e.says) [ None ↦ misfit ps (line + 1) es | Some cause ↦ misfit_at cause line ]

-- goals with none above them yet, the first one first, and the rules behind them
pub record Forest : Type 0 where
  pub goals : List Goal
  pub rules : Rules

abbrev pub first : List Goal → Goal
first [] = nothing
first (g ∷ gs) = g

abbrev pub rest : List Goal → List Goal
rest [] = []
rest (g ∷ gs) = gs

-- one line more in front
abbrev pub planted : Statement → Forest → Forest
planted (a_rule p) f = record { goals = rest f.goals; rules = record { params = p; goal = first f.goals } ∷ f.rules }
planted (a_tell code k slots) f = record { goals = tell code k slots ∷ f.goals; rules = f.rules }
planted an_and f = record { goals = conj (first f.goals) (first (rest f.goals)) ∷ rest (rest f.goals); rules = f.rules }
planted an_or f = record { goals = disj (first f.goals) (first (rest f.goals)) ∷ rest (rest f.goals); rules = f.rules }
planted a_new f = record { goals = fresh (first f.goals) ∷ rest f.goals; rules = f.rules }
planted (a_call r slots) f = record { goals = call r slots ∷ f.goals; rules = f.rules }

abbrev pub forest : List Entry → Forest
forest [] = record { goals = []; rules = [] }
forest (e ∷ es) = planted e.says (forest es)

pub data Reading : Type 0 where
  book : Rules → Reading
  refused : Cause → ℕ → ℕ → Reading

abbrev pub settled : Checked → Reading
settled (stopped cause line field) = refused cause line field
settled (passed es) = elim (misfit (heads es) 1 es) [ fitting ↦ book (forest es).rules | misfit_at cause line ↦ refused cause line 2 ]

abbrev pub reading : List ℕ → Reading
reading text = cond (nat_lt 65536 (length text)) (refused TextTooLong 0 0) (settled (check 1 start (lines text)))

-- the code's answer, with the book that it leaves
abbrev pub answered : Result (Unit {0}) Refusal → Rules → Reading
answered (Ok u) rules = book rules
answered (Err e) rules = refused e.cause e.line e.field

pub record ReadsBooks (text : List ℕ) (r : Reading) : Type 0 where
  pub reads : (rules : Rules) → IsBook rules → Writes rules text → r ≡ book rules
  pub only : (rules : Rules) → r ≡ book rules → IsBook rules × Writes rules text

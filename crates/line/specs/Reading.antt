-- How a line is read from its fields, and what is refused. Assumes nothing.
--
--   Outcome      what a line says, or what is wrong with it
--   answered     the code's answer as an outcome
--   slotted      the same of slots
--   word_of      the word that a field is
--   least        how few fields may stand behind a word
--   most         how many
--   takes        a count of fields is one that a word may have behind it
--   unless       what was read, or a fault if there is nothing
--   number_of    a field as a number up to max
--   signed_of    a field as a number with a sign, of a size up to max
--   first_word   the first of some fields as a word, and so first_number and first_signed
--   as_slots     some fields as slots, behind those that are done
--   and_then     an outcome from what was read before, unless that was wrong
--   ruled        the fields behind the word `rule`, and so called and told
--   numbered     the fields behind a word, of which there are as many as it takes
--   counted      the fields behind a word
--   outcome      the whole line: its word, then its count of fields, then its numbers from left to right
--   Exact        a line is read exactly if it is that of a statement in range, and then as this one
--
-- `n` is the number of the field before those that are read.
use Rattle.std.specs.Prelude.{◌≡◌, ℕ, ◌+◌, Bool, cond, ◌&&◌, List, [], ◌∷◌, ◌++◌, length, drop, ℤ, Some, None, Ok, Err, codes, Option, Result, nat_le}
use Rattle.std.specs.Str.{bytes_eq}
use Rattle.numeral.specs.Reads.{as_number, as_signed}
use Rattle.row.specs.declared.ShortRow.{ShortRow}
use Rattle.row.specs.Shorts.{items}
use Rattle.line.specs.declared.Fault.{Fault}
use Rattle.line.specs.declared.Fault.TheVariants.{UnknownWord, FieldCount, BadNumber}
use Rattle.line.specs.declared.Line.{Line}
use Rattle.line.specs.declared.Word.{Word}
use Rattle.line.specs.declared.Word.TheVariants.{Rule, And, Or, New, Call, Tell}
use Rattle.line.specs.Says.{says}
use Rattle.line.specs.Statements.{Statement, a_rule, a_tell, an_and, an_or, a_new, a_call, words, InRange}

pub data Outcome : Type 0 where
  said : Statement → Outcome
  wrong : Fault → Outcome

abbrev pub answered : Result Line Fault → Outcome
answered (Ok line) = said (says line)
answered (Err fault) = wrong fault

abbrev pub slotted : {N : ℕ} → Result (ShortRow ℕ N) Fault → Result (List ℕ) Fault
slotted (Ok s) = Ok (items s)
slotted (Err fault) = Err fault

abbrev pub word_of : List ℕ → Option Word
word_of f =
    cond (bytes_eq f (codes "rule")) (Some Rule)
    (cond (bytes_eq f (codes "and")) (Some And)
    (cond (bytes_eq f (codes "or")) (Some Or)
    (cond (bytes_eq f (codes "new")) (Some New)
    (cond (bytes_eq f (codes "call")) (Some Call)
    (cond (bytes_eq f (codes "tell")) (Some Tell) None)))))

abbrev pub least : Word → ℕ
least Rule = 1
least And = 0
least Or = 0
least New = 0
least Call = 1
least Tell = 2

abbrev pub most : Word → ℕ
most Rule = 1
most And = 0
most Or = 0
most New = 0
most Call = 17
most Tell = 5

abbrev pub takes : Word → ℕ → Bool
takes w count = nat_le (least w) count && nat_le count (most w)

abbrev pub unless : {A : Type 0} → Fault → Option A → Result A Fault
unless e (Some v) = Ok v
unless e None = Err e

-- of the field with the number n
abbrev pub number_of : ℕ → ℕ → List ℕ → Result ℕ Fault
number_of max n f = unless (BadNumber n) (as_number max f)

abbrev pub signed_of : ℕ → ℕ → List ℕ → Result ℤ Fault
signed_of max n f = unless (BadNumber n) (as_signed max f)

abbrev pub first_word : List (List ℕ) → Result Word Fault
first_word [] = Err UnknownWord
first_word (f ∷ fs) = unless UnknownWord (word_of f)

abbrev pub first_number : ℕ → ℕ → List (List ℕ) → Result ℕ Fault
first_number max n [] = Err FieldCount
first_number max n (f ∷ fs) = number_of max (n + 1) f

abbrev pub first_signed : ℕ → ℕ → List (List ℕ) → Result ℤ Fault
first_signed max n [] = Err FieldCount
first_signed max n (f ∷ fs) = signed_of max (n + 1) f

abbrev pub as_slots : ℕ → List ℕ → List (List ℕ) → Result (List ℕ) Fault
as_slots n done [] = Ok done
as_slots n done (f ∷ fs) = elim (number_of 15 (n + 1) f) [ Ok v ↦ as_slots (n + 1) (done ++ v ∷ []) fs | Err e ↦ Err e ]

abbrev pub and_then : {A : Type 0} → Result A Fault → (A → Outcome) → Outcome
and_then (Ok x) next = next x
and_then (Err e) next = wrong e

abbrev pub ruled : ℕ → List (List ℕ) → Outcome
ruled n fs = and_then (first_number 16 n fs) (λ p. said (a_rule p))

abbrev pub called : ℕ → List (List ℕ) → Outcome
called n fs =
    and_then (first_number 63 n fs) (λ r. and_then (as_slots (n + 1) [] (drop 1 fs)) (λ ss. said (a_call r ss)))

abbrev pub told : ℕ → List (List ℕ) → Outcome
told n fs =
    and_then (first_number 255 n fs)
    (λ code. and_then (first_signed 1000 (n + 1) (drop 1 fs))
    (λ k. and_then (as_slots (n + 1 + 1) [] (drop 1 (drop 1 fs))) (λ ss. said (a_tell code k ss))))

abbrev pub numbered : Word → ℕ → List (List ℕ) → Outcome
numbered Rule n fs = ruled n fs
numbered And n fs = said an_and
numbered Or n fs = said an_or
numbered New n fs = said a_new
numbered Call n fs = called n fs
numbered Tell n fs = told n fs

abbrev pub counted : Word → ℕ → List (List ℕ) → Outcome
counted w n fs = cond (takes w (length fs)) (numbered w n fs) (wrong FieldCount)

abbrev pub outcome : ℕ → List (List ℕ) → Outcome
outcome n fs = and_then (first_word fs) (λ w. counted w (n + 1) (drop 1 fs))

pub record Exact (fs : List (List ℕ)) (o : Outcome) : Type 0 where
  pub reads : (s : Statement) → InRange s → fs ≡ words s → o ≡ said s
  pub only : (s : Statement) → o ≡ said s → InRange s × (fs ≡ words s)

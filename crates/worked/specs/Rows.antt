-- The rows of the table of worked examples, and when a row holds. Assumes nothing.
--
--   Bank          the bank of trees, or that of semitones
--   kind_of       the kind of the bank's values
--   SaysOf        the text of a variable says what the solutions say of it, in this bank
--   stored        the solutions that the bank's store has after some constraints
--   Given         an answer in a row: its step, its choices and its line
--   End           nothing is left after the steps, or something is
--   Row           one example
--   Reads         the text is that of the book, and the reader takes it for this book
--   LineIs        the line of an answer, by texts that say what its solutions say
--   AnswersAre    the answers of a run are these
--   EndsSo        what is left is as an end says
--   HasTold       a live store has the solutions of what it was told
--   EveryTell     something holds of every answer to a tell to such a store
--   Ran, Weighed, Refused, ReadAlike, TellRefused, TellAccepted   what the rows say, one by one
--   Holds         what a row says is so
use Rattle.std.specs.Prelude.{◌≡◌, ℕ, ◌<◌, true, false, List, [], ◌∷◌, ◌++◌, Some, None, Ok, Err, codes, Result}
use Prim.Native.String.{String}
use Rattle.bank.specs.declared.Effect.{Effect}
use Rattle.bank.specs.declared.Refusal.{Refusal}
use Rattle.bank.specs.Calls.{Tells}
use Rattle.bank.specs.Kinds.{Value, Condition, Kind, Assignment, Solutions, solves}
use Rattle.bank.specs.Numbers.{number}
use Rattle.bank.specs.Views.{Meaning}
use Rattle.trees.specs.Kind.{trees}
use Rattle.trees.specs.Says.{Says as TreeSays}
use Rattle.semitones.specs.Whole.{whole}
use Rattle.semitones.specs.Says.{Says as SemitoneSays}
use Rattle.book.specs.declared.refusal.Cause.{Cause}
use Rattle.book.specs.Language.{Rules, rule_at}
use Rattle.book.specs.Listing.{Writes, IsBook}
use Rattle.book.specs.Reading.{number as cause_number, reading, book, refused}
use Rattle.machine.specs.Machine.{Side, Tree, State, Entry, Run}
use Rattle.machine.specs.Derivations.{Deriv, weight, choices, Posable}
use Rattle.answer_line.specs.Lines.{line_of}

pub data Bank : Type 0 where
  over_trees over_semitones : Bank

abbrev pub kind_of : Bank → Kind
kind_of over_trees = trees
kind_of over_semitones = whole

abbrev pub SaysOf : Bank → Solutions → (ℕ → List ℕ) → ℕ → Type 0
SaysOf over_trees s text x = TreeSays s text x
SaysOf over_semitones s text x = SemitoneSays s x (text x)

-- both banks have 256 variables
abbrev pub stored : Bank → List Condition → Solutions
stored b told = solves (kind_of b) 256 told

abbrev pub Given : Type 0
Given = ℕ × List Side × String

pub data End : Type 0 where
  exhausted spent : End

pub data Row : Type 0 where
  -- rule 0 of a book makes so many steps, with these answers, and then this end
  runs : Bank → String → ℕ → List Given → End → Row
  -- rule 0 of a book has a derivation for these values, with these choices, that weighs so much
  weighs : Bank → String → List Value → List Side → ℕ → Row
  -- a text is refused with this number, at this line and this field
  refuses : String → ℕ → ℕ → ℕ → Row
  -- two texts are read as the same book
  reads_alike : String → String → Row
  -- a store that was told all these refuses the next with this number, since no solution would be left
  contradicts : Bank → List Condition → Condition → ℕ → Row
  -- a store that was told all these accepts the next, and a solution is left
  accepts : Bank → List Condition → Condition → Row

pub record Reads (text : String) (rules : Rules) : Type 0 where
  pub read : reading (codes text) ≡ book rules
  pub is_book : IsBook rules
  pub written : Writes rules (codes text)

-- of an answer that was told so, on the variables 0 to p - 1
pub record LineIs (b : Bank) (p : ℕ) (told : List Condition) (line : String) : Type 0 where
  pub text : ℕ → List ℕ
  pub says : (x : ℕ) → x < 256 → SaysOf b (stored b told) text x
  pub joins : codes line ≡ line_of text p

abbrev pub AnswersAre : Bank → ℕ → List Entry → List Given → Type 0
AnswersAre b p [] [] = Unit {0}
AnswersAre b p [] (g ∷ gs) = ⊥
AnswersAre b p (e ∷ es) [] = ⊥
AnswersAre b p (e ∷ es) (g ∷ gs) = (e.step ≡ g.0) × (e.answer.choices ≡ g.1) × LineIs b p e.answer.told g.2 × AnswersAre b p es gs

abbrev pub EndsSo : End → State → Type 0
EndsSo exhausted S = S ≡ None
EndsSo spent S = (T : Tree) × (S ≡ Some T)

pub record Ran (b : Bank) (text : String) (steps : ℕ) (answers : List Given) (end : End) : Type 0 where
  pub rules : Rules
  pub reads : Reads text rules
  pub state : State
  pub entries : List Entry
  pub run : Run (kind_of b) rules (rule_at rules 0) steps state entries
  pub given : AnswersAre b (rule_at rules 0).params entries answers
  pub ends : EndsSo end state

pub record Weighed (b : Bank) (text : String) (values : List Value) (sides : List Side) (w : ℕ) : Type 0 where
  pub rules : Rules
  pub reads : Reads text rules
  pub posable : Posable (kind_of b) (rule_at rules 0) values
  pub derivation : Deriv (kind_of b) rules (rule_at rules 0).goal values
  pub its_choices : choices derivation ≡ sides
  pub its_weight : weight derivation ≡ w

pub record Refused (text : String) (n line field : ℕ) : Type 0 where
  pub cause : Cause
  pub answer : reading (codes text) ≡ refused cause line field
  pub its_number : cause_number cause ≡ n

pub record ReadAlike (one other : String) : Type 0 where
  pub rules : Rules
  pub first : Reads one rules
  pub second : Reads other rules

-- a live store with the solutions of what it was told
abbrev pub HasTold : Bank → List Condition → Meaning → ℕ → Type 0
HasTold b told m s = (m.live s ≡ true) × ((σ : Assignment) → m.solutions s σ ≡ stored b told σ)

-- whatever a tell of c to such a store answers, P says of it
abbrev pub EveryTell : Bank → List Condition → Condition → (Result Effect Refusal → Type 0) → Type 0
EveryTell b told c P = (m n : Meaning) (s : ℕ) (r : Result Effect Refusal) → HasTold b told m s → Tells (kind_of b) 256 m n s c r → P r

pub record TellRefused (b : Bank) (told : List Condition) (c : Condition) (n : ℕ) : Type 0 where
  pub never : (σ : Assignment) → stored b (told ++ c ∷ []) σ ≡ false
  pub answer : EveryTell b told c (λ r. (e : Refusal) × (r ≡ Err e) × (number e ≡ n))

pub record TellAccepted (b : Bank) (told : List Condition) (c : Condition) : Type 0 where
  pub some : (σ : Assignment) × (stored b (told ++ c ∷ []) σ ≡ true)
  pub answer : EveryTell b told c (λ r. (e : Effect) × (r ≡ Ok e))

abbrev pub Holds : Row → Type 0
Holds (runs b text steps answers end) = Ran b text steps answers end
Holds (weighs b text values sides w) = Weighed b text values sides w
Holds (refuses text n line field) = Refused text n line field
Holds (reads_alike one other) = ReadAlike one other
Holds (contradicts b told c n) = TellRefused b told c n
Holds (accepts b told c) = TellAccepted b told c

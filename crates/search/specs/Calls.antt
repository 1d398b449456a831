-- What a search in memory stands for, and what each call does: s is the search before, t the search after. Assumes nothing.
--
--   Mine        a store is one of the search's: a leaf has it, or the answer that waits
--   WaitsAs     the answer that waits, if any, is the latest
--   StandsFor   after its steps since the pose the search stands for the machine's state, with these answers
--   Good        what holds of every search: the invariant of its type
--   Untouched   live stores that are not the search's are as they were, and not the search's
--   NoneLeft    what left the search has ended, and no store is new but the search's
--   Same        the search is as it was
--   NewDoes, PoseDoes, RunDoes, WriteDoes, TakeDoes
--               the calls, by their answers
--   Waits       the answer that waits, or why there is none
--   nodes       how many nodes the machine has left
--   Crowded     the next step leaves over 1,024 nodes, and Roomy: it does not
--   Barred      why the machine's next step cannot be made
--   Ends        how a run ended
--   MayRun      whether a run may begin, and StopsBy: why it stops, if it does
--   halt_at     where a run halted that made so many steps
--   AdvanceDoes one step of a run
--   Holding     what a search holds may be released, and Emptied: it holds nothing
--
-- A refusal stands with its cause, and with the fact that no earlier cause of its call holds.
use Rattle.std.specs.Prelude.{◌≡◌, ℕ, ◌+◌, ◌^◌, ◌<◌, ◌≤◌, Bool, true, false, ◌⊎◌, List, [], ◌∷◌, ◌++◌, length, Some, None, Ok, Err, vec_len, vec_capacity, Option, Result, ◌≢◌, Vec, Box}
use Rattle.std.specs.declared.alloc.Global.{Global}
use Rattle.bank.specs.declared.Refusal.{Refusal as BankRefusal}
use Rattle.bank.specs.declared.Refusal.TheVariants.{NoSpare}
use Rattle.bank.specs.Calls.{Unchanged}
use Rattle.bank.specs.Kinds.{Kind, Assignment}
use Rattle.bank.specs.Views.{Meaning, View}
use Rattle.book.specs.declared.Book.{Book}
use Rattle.book.specs.Language.{Rule, Rules, rule_at}
use Rattle.book.specs.Meaning.{book_nodes, meaning}
use Rattle.book.specs.Table.{line_at}
use Rattle.machine.specs.Machine.{Answer, State, Tree as MachineTree, leaf, branch, chain, Step, Run, Entry, noted, posed}
use Rattle.machine.specs.Theorems.{RuleFits}
use Rattle.search.specs.declared.NoMemory.{NoMemory}
use Rattle.search.specs.declared.Outcome.{Outcome}
use Rattle.search.specs.declared.Outcome.TheVariants.{Answer as Answered, Exhausted, Spent}
use Rattle.search.specs.declared.Ran.{Ran}
use Rattle.search.specs.declared.Search.{Search}
use Rattle.search.specs.declared.refusal.Halt.{Halt}
use Rattle.search.specs.declared.refusal.Refusal.{Refusal}
use Rattle.search.specs.declared.refusal.Refusal.TheVariants.{NoSuchRule, UnknownTell, NoStock, NothingPosed, AnswerWaits, TooManySteps, TooManyNodes, NoVariable, NoStore, NoAnswer, ShortBuffer, LineTooLong}
use Rattle.frontier.specs.declared.stop.Stop.{Stop}
use Rattle.frontier.specs.declared.stop.Stop.TheVariants.{Nodes, Variables, Stores}
use Rattle.frontier.specs.declared.tree.Found.{Found}
use Rattle.frontier.specs.declared.tree.Tree.{Tree}
use Rattle.frontier.specs.Books.{Copies, Known}
use Rattle.search.specs.Unknowns.{Unknown}
use Rattle.answer_line.specs.declared.Overlong.{Overlong}
use Rattle.answer_line.specs.Lines.{line_of, Written, Refused, FieldsTell}
use Rattle.frontier.specs.Steps.{Next, AtFresh, AtOr}
use Rattle.frontier.specs.Trees.{boxes, next_goal_lem, Left, Answers, Given, Holds, held, Among, standing, AllApart, Cleared}

abbrev pub Mine : {S : Type 0} → Search S → ℕ → Type 0
Mine s x = Among s.over s.tree x ⊎ Holds s.waiting x

pub record Latest (K : Kind) (V : ℕ) (m : Meaning) (x : Found) (t : ℕ) (es : List Entry) : Type 0 where
  pub before : List Entry
  pub last : Answer
  pub place : es ≡ before ++ (record { step = t; answer = last } ∷ [])
  pub stands : Answers K V m x last

abbrev pub WaitsAs : Kind → ℕ → Meaning → Option Found → ℕ → List Entry → Type 0
WaitsAs K V m None t es = Unit {0}
WaitsAs K V m (Some x) t es = Latest K V m x t es

pub record StandsFor {S : Type 0} (v : View S) (s : Search S) (rules : Rules) (rule : Rule) (T : State) (es : List Entry) : Type 0 where
  pub copies : Copies v.kind s.book rules
  pub fits : RuleFits rules rule
  pub params : s.params ≡ rule.params
  pub run : Run v.kind rules rule s.steps T es
  pub tree : Left v.kind v.variables s.book (v.meaning s.bank) s.over s.tree T
  pub waits : WaitsAs v.kind v.variables (v.meaning s.bank) s.waiting s.steps es

pub record Good {S : Type 0} (v : View S) (s : Search S) : Type 0 where
  pub pool : vec_len s.pool + boxes s.tree ≡ 1023
  pub room : 1023 ≤ vec_capacity s.pool
  pub spare : (v.meaning s.bank).spare + (standing s.over s.tree + held s.waiting) ≡ s.stock
  pub few : s.params ≤ 16
  pub blank : s.over ≡ true → boxes s.tree ≡ 0
  pub apart : AllApart s.over s.tree
  pub parted : (x : ℕ) → Holds s.waiting x → Among s.over s.tree x → ⊥
  pub going : s.posed ≡ true → (rules : Rules) × (rule : Rule) × (T : State) × (es : List Entry) × StandsFor v s rules rule T es
  pub idle : s.posed ≡ false → (s.over ≡ true) × (s.waiting ≡ None)

pub record Untouched {S : Type 0} (v : View S) (s t : Search S) : Type 0 where
  pub live : (x : ℕ) → (Mine s x → ⊥) → (v.meaning s.bank).live x ≡ true → (v.meaning t.bank).live x ≡ true
  pub solutions :
      (x : ℕ) → (Mine s x → ⊥) → (v.meaning s.bank).live x ≡ true
      → (σ : Assignment) → (v.meaning t.bank).solutions x σ ≡ (v.meaning s.bank).solutions x σ
  pub theirs : (x : ℕ) → (Mine s x → ⊥) → (v.meaning s.bank).live x ≡ true → Mine t x → ⊥

-- what was the search's has ended, unless it is so still, and no store is new but the search's
pub record NoneLeft {S : Type 0} (v : View S) (s t : Search S) : Type 0 where
  pub gone : (x : ℕ) → (Mine t x → ⊥) → Mine s x ⊎ ((v.meaning s.bank).live x ≡ false) → (v.meaning t.bank).live x ≡ false

pub record Same {S : Type 0} (v : View S) (s t : Search S) : Type 0 where
  pub bank : Unchanged (v.meaning s.bank) (v.meaning t.bank)
  pub book : t.book ≡ s.book
  pub params : t.params ≡ s.params
  pub tree : t.tree ≡ s.tree
  pub waiting : t.waiting ≡ s.waiting
  pub posed : t.posed ≡ s.posed
  pub over : t.over ≡ s.over
  pub steps : t.steps ≡ s.steps
  pub stock : t.stock ≡ s.stock
  pub spare_boxes : vec_len t.pool ≡ vec_len s.pool
  pub room : vec_capacity t.pool ≡ vec_capacity s.pool

-- new
pub record Made {S : Type 0} (v : View S) (bank : S) (t : Search S) : Type 0 where
  pub bank_is : t.bank ≡ bank
  pub stock : t.stock ≡ (v.meaning bank).spare
  pub nothing : t.posed ≡ false
  pub over : t.over ≡ true
  pub empty : t.waiting ≡ None

abbrev pub NewDoes : {S : Type 0} → View S → S → Result (Search S) (NoMemory S) → Type 0
NewDoes v bank (Ok t) = Made v bank t
NewDoes v bank (Err e) = e.bank ≡ bank

-- pose
pub record Starts {S : Type 0} (v : View S) (s : Search S) (book : Book) (r : ℕ) (t : Search S) : Type 0 where
  pub there : r < length (meaning book)
  pub is_posed : t.posed ≡ true
  pub book_is : t.book ≡ book
  pub steps : t.steps ≡ 0
  pub empty : t.waiting ≡ None
  pub stock : t.stock ≡ s.stock
  pub stands : StandsFor v t (meaning book) (rule_at (meaning book) r) (Some (posed (rule_at (meaning book) r))) []
  -- what the search held has ended, but for a number that its new store has again
  pub released : (x : ℕ) → Mine s x → (Mine t x → ⊥) → (v.meaning t.bank).live x ≡ false
  pub others : Untouched v s t

pub record NoneKnown {S : Type 0} (v : View S) (book : Book) (r line : ℕ) : Type 0 where
  pub there : r < length (meaning book)
  pub unknown : Unknown v.kind (book_nodes book) (length (book_nodes book)) line

pub record NoneSpare {S : Type 0} (v : View S) (s : Search S) (book : Book) (r : ℕ) (e : BankRefusal) : Type 0 where
  pub there : r < length (meaning book)
  pub known : Known v.kind (book_nodes book) (length (book_nodes book))
  pub stock : s.stock ≡ 0
  pub cause : e ≡ NoSpare

abbrev pub PoseRefused : {S : Type 0} → View S → Search S → Book → ℕ → Refusal → Type 0
PoseRefused v s book r NoSuchRule = length (meaning book) ≤ r
PoseRefused v s book r (UnknownTell line) = NoneKnown v book r line
PoseRefused v s book r (NoStock e) = NoneSpare v s book r e
PoseRefused v s book r NothingPosed = ⊥
PoseRefused v s book r AnswerWaits = ⊥
PoseRefused v s book r TooManySteps = ⊥
PoseRefused v s book r (TooManyNodes h) = ⊥
PoseRefused v s book r (NoVariable h) = ⊥
PoseRefused v s book r (NoStore h e) = ⊥
PoseRefused v s book r NoAnswer = ⊥
PoseRefused v s book r ShortBuffer = ⊥
PoseRefused v s book r (LineTooLong o) = ⊥

abbrev pub PoseDoes : {S : Type 0} → View S → Search S → Book → ℕ → Result (Unit {0}) Refusal → Search S → Type 0
PoseDoes v s book r (Ok u) t = Starts v s book r t
PoseDoes v s book r (Err e) t = PoseRefused v s book r e × Same v s t

-- how many nodes a tree has below its root
abbrev pub below : MachineTree → ℕ
below (leaf g f n told ch) = 0
below (branch A B) = below A + below B + 2
below (chain A g f) = below A + 1

abbrev pub nodes : State → ℕ
nodes None = 0
nodes (Some T) = below T + 1

abbrev pub Crowded : Kind → Rules → MachineTree → Type 0
Crowded K rules T = (o : Option Answer) (S : State) → Step K rules T o S → 1024 < nodes S

abbrev pub Roomy : Kind → Rules → MachineTree → Type 0
Roomy K rules T = (o : Option Answer) (S : State) → Step K rules T o S → nodes S ≤ 1024

pub record NoneFresh {S : Type 0} (v : View S) (rules : Rules) (T : MachineTree) : Type 0 where
  pub roomy : Roomy v.kind rules T
  pub all_used : Next (λ g n. AtFresh v.variables g n) T

pub record NoneForked {S : Type 0} (v : View S) (t : Search S) (rules : Rules) (T : MachineTree) (e : BankRefusal) : Type 0 where
  pub roomy : Roomy v.kind rules T
  pub not_new : Next (λ g n. AtFresh v.variables g n) T → ⊥
  pub at_or : Next (λ g n. AtOr g) T
  pub all_held : standing t.over t.tree ≡ t.stock
  pub cause : e ≡ NoSpare

abbrev pub Barred : {S : Type 0} → View S → Search S → Rules → MachineTree → Stop → Type 0
Barred v t rules T Nodes = Crowded v.kind rules T
Barred v t rules T Variables = NoneFresh v rules T
Barred v t rules T (Stores e) = NoneForked v t rules T e

-- At T with the answers es', from the answers es before, after k of b steps.
pub record AtAnswer {S : Type 0} (v : View S) (t : Search S) (es es' : List Entry) (k : ℕ) (x : Found) : Type 0 where
  pub stepped : 1 ≤ k
  pub waits : t.waiting ≡ Some x
  pub answer : Answer
  pub latest : es' ≡ es ++ (record { step = t.steps; answer = answer } ∷ [])
  pub stands : Answers v.kind v.variables (v.meaning t.bank) x answer

pub record AtEnd {S : Type 0} (t : Search S) (T : State) (es es' : List Entry) : Type 0 where
  pub empty : t.waiting ≡ None
  pub nothing : T ≡ None
  pub no_answer : es' ≡ es

pub record AtBudget {S : Type 0} (t : Search S) (T : State) (es es' : List Entry) (k b : ℕ) : Type 0 where
  pub empty : t.waiting ≡ None
  pub all_made : k ≡ b
  pub tree : MachineTree
  pub something : T ≡ Some tree
  pub no_answer : es' ≡ es

abbrev pub Ends : {S : Type 0} → View S → Search S → State → List Entry → List Entry → ℕ → ℕ → Outcome → Type 0
Ends v t T es es' k b (Answered x) = AtAnswer v t es es' k x
Ends v t T es es' k b Exhausted = AtEnd t T es es'
Ends v t T es es' k b Spent = AtBudget t T es es' k b

-- run: where it leads from the answers es
pub record Advanced {S : Type 0} (v : View S) (t : Search S) (rules : Rules) (rule : Rule) (k b : ℕ) (es : List Entry) (o : Outcome) : Type 0 where
  pub state : State
  pub entries : List Entry
  pub stands : StandsFor v t rules rule state entries
  pub ends : Ends v t state es entries k b o

-- no answer came, and the next step cannot be made
pub record Halted {S : Type 0} (v : View S) (t : Search S) (rules : Rules) (rule : Rule) (es : List Entry) (e : Stop) : Type 0 where
  pub state : MachineTree
  pub stands : StandsFor v t rules rule (Some state) es
  pub empty : t.waiting ≡ None
  pub barred : Barred v t rules state e

pub record Runs {S : Type 0} (v : View S) (s t : Search S) (k b : ℕ) : Type 0 where
  pub was_posed : s.posed ≡ true
  pub is_posed : t.posed ≡ true
  pub none_waited : s.waiting ≡ None
  pub near : s.steps + b < 2 ^ 32
  pub few : k ≤ b
  pub steps : t.steps ≡ s.steps + k
  pub book : t.book ≡ s.book
  pub stock : t.stock ≡ s.stock
  pub others : Untouched v s t

abbrev pub halt_at : {S : Type 0} → Search S → ℕ → Halt
halt_at t k = record { steps = k; total = t.steps; line = line_at (book_nodes t.book) (next_goal_lem t.tree) }

pub record RunMade {S : Type 0} (v : View S) (s : Search S) (b : ℕ) (r : Ran) (t : Search S) : Type 0 where
  pub runs : Runs v s t r.steps b
  pub total : r.total ≡ t.steps
  pub leads : (rules : Rules) (rule : Rule) (T : State) (es : List Entry) → StandsFor v s rules rule T es → Advanced v t rules rule r.steps b es r.outcome

pub record RunHalted {S : Type 0} (v : View S) (s : Search S) (b : ℕ) (h : Halt) (e : Stop) (t : Search S) : Type 0 where
  pub runs : Runs v s t h.steps b
  pub some_left : h.steps < b
  pub at : h ≡ halt_at t h.steps
  pub leads : (rules : Rules) (rule : Rule) (T : State) (es : List Entry) → StandsFor v s rules rule T es → Halted v t rules rule es e

abbrev pub MayRun : {S : Type 0} → Search S → ℕ → Result (Unit {0}) Refusal → Type 0
MayRun s b (Ok u) = (s.posed ≡ true) × (s.waiting ≡ None) × (s.steps + b < 2 ^ 32)
MayRun s b (Err NothingPosed) = s.posed ≡ false
MayRun s b (Err AnswerWaits) = (s.posed ≡ true) × ((x : Found) × (s.waiting ≡ Some x))
MayRun s b (Err TooManySteps) = (s.posed ≡ true) × (s.waiting ≡ None) × (2 ^ 32 ≤ s.steps + b)
MayRun s b (Err (TooManyNodes h)) = ⊥
MayRun s b (Err (NoVariable h)) = ⊥
MayRun s b (Err (NoStore h e)) = ⊥
MayRun s b (Err NoSuchRule) = ⊥
MayRun s b (Err (UnknownTell line)) = ⊥
MayRun s b (Err (NoStock e)) = ⊥
MayRun s b (Err NoAnswer) = ⊥
MayRun s b (Err ShortBuffer) = ⊥
MayRun s b (Err (LineTooLong o)) = ⊥

-- after k of b steps
abbrev pub StopsBy : {S : Type 0} → Search S → ℕ → ℕ → Option Outcome → Type 0
StopsBy t k b (Some (Answered x)) = t.waiting ≡ Some x
StopsBy t k b (Some Exhausted) = (t.waiting ≡ None) × (t.over ≡ true)
StopsBy t k b (Some Spent) = (t.waiting ≡ None) × (t.over ≡ false) × (k ≡ b)
StopsBy t k b None = (t.waiting ≡ None) × (t.over ≡ false) × (k ≢ b)

abbrev pub RunDoes : {S : Type 0} → View S → Search S → ℕ → Result Ran Refusal → Search S → Type 0
RunDoes v s b (Ok r) t = RunMade v s b r t
RunDoes v s b (Err NothingPosed) t = (s.posed ≡ false) × Same v s t
RunDoes v s b (Err AnswerWaits) t = (s.posed ≡ true) × ((x : Found) × (s.waiting ≡ Some x)) × Same v s t
RunDoes v s b (Err TooManySteps) t = (s.posed ≡ true) × (s.waiting ≡ None) × (2 ^ 32 ≤ s.steps + b) × Same v s t
RunDoes v s b (Err (TooManyNodes h)) t = RunHalted v s b h Nodes t
RunDoes v s b (Err (NoVariable h)) t = RunHalted v s b h Variables t
RunDoes v s b (Err (NoStore h e)) t = RunHalted v s b h (Stores e) t
RunDoes v s b (Err NoSuchRule) t = ⊥
RunDoes v s b (Err (UnknownTell line)) t = ⊥
RunDoes v s b (Err (NoStock e)) t = ⊥
RunDoes v s b (Err NoAnswer) t = ⊥
RunDoes v s b (Err ShortBuffer) t = ⊥
RunDoes v s b (Err (LineTooLong o)) t = ⊥

-- write: of a lent buffer
pub record Wrote {S : Type 0} (v : View S) (s : Search S) (before after : List ℕ) (len : ℕ) : Type 0 where
  pub was_posed : s.posed ≡ true
  pub answer : Found
  pub waits : s.waiting ≡ Some answer
  pub room : 1024 ≤ length before
  pub line : Written ((v.meaning s.bank).text answer.store) s.params before after len
  pub tells : FieldsTell (v.meaning s.bank) answer.store s.params (line_of ((v.meaning s.bank).text answer.store) s.params)

pub record Overran {S : Type 0} (v : View S) (s : Search S) (before after : List ℕ) (o : Overlong) : Type 0 where
  pub was_posed : s.posed ≡ true
  pub answer : Found
  pub waits : s.waiting ≡ Some answer
  pub room : 1024 ≤ length before
  pub line : Refused ((v.meaning s.bank).text answer.store) s.params before after o

abbrev pub WriteDoes : {S : Type 0} → View S → Search S → List ℕ → Result ℕ Refusal → List ℕ → Type 0
WriteDoes v s before (Ok len) after = Wrote v s before after len
WriteDoes v s before (Err NothingPosed) after = (s.posed ≡ false) × (after ≡ before)
WriteDoes v s before (Err NoAnswer) after = (s.posed ≡ true) × (s.waiting ≡ None) × (after ≡ before)
WriteDoes v s before (Err ShortBuffer) after = (s.posed ≡ true) × ((x : Found) × (s.waiting ≡ Some x)) × (length before < 1024) × (after ≡ before)
WriteDoes v s before (Err (LineTooLong o)) after = Overran v s before after o
WriteDoes v s before (Err NoSuchRule) after = ⊥
WriteDoes v s before (Err (UnknownTell line)) after = ⊥
WriteDoes v s before (Err (NoStock e)) after = ⊥
WriteDoes v s before (Err AnswerWaits) after = ⊥
WriteDoes v s before (Err TooManySteps) after = ⊥
WriteDoes v s before (Err (TooManyNodes h)) after = ⊥
WriteDoes v s before (Err (NoVariable h)) after = ⊥
WriteDoes v s before (Err (NoStore h e)) after = ⊥

-- take
pub record Takes {S : Type 0} (v : View S) (s t : Search S) : Type 0 where
  pub answer : Found
  pub was : s.waiting ≡ Some answer
  pub was_posed : s.posed ≡ true
  pub is_posed : t.posed ≡ true
  pub empty : t.waiting ≡ None
  pub released : (v.meaning t.bank).live answer.store ≡ false
  pub steps : t.steps ≡ s.steps
  pub book : t.book ≡ s.book
  pub stock : t.stock ≡ s.stock
  pub stands : (rules : Rules) (rule : Rule) (T : State) (es : List Entry) → StandsFor v s rules rule T es → StandsFor v t rules rule T es
  pub others : Untouched v s t

abbrev pub TakeRefused : {S : Type 0} → Search S → Refusal → Type 0
TakeRefused s NothingPosed = s.posed ≡ false
TakeRefused s NoAnswer = (s.posed ≡ true) × (s.waiting ≡ None)
TakeRefused s NoSuchRule = ⊥
TakeRefused s (UnknownTell line) = ⊥
TakeRefused s (NoStock e) = ⊥
TakeRefused s AnswerWaits = ⊥
TakeRefused s TooManySteps = ⊥
TakeRefused s (TooManyNodes h) = ⊥
TakeRefused s (NoVariable h) = ⊥
TakeRefused s (NoStore h e) = ⊥
TakeRefused s ShortBuffer = ⊥
TakeRefused s (LineTooLong o) = ⊥

-- the answer that waits
abbrev pub Waits : {S : Type 0} → Search S → Result Found Refusal → Type 0
Waits s (Ok x) = (s.posed ≡ true) × (s.waiting ≡ Some x)
Waits s (Err e) = TakeRefused s e

abbrev pub TakeDoes : {S : Type 0} → View S → Search S → Result (Unit {0}) Refusal → Search S → Type 0
TakeDoes v s (Ok u) t = Takes v s t
TakeDoes v s (Err e) t = TakeRefused s e × Same v s t

-- one step
pub record SteppedTo {S : Type 0} (v : View S) (t : Search S) (rules : Rules) (rule : Rule) (es : List Entry) : Type 0 where
  pub given : Option Answer
  pub state : State
  pub stands : StandsFor v t rules rule state (noted es t.steps given)
  pub answer : Given v.kind v.variables (v.meaning t.bank) t.waiting given

pub record OneMore {S : Type 0} (v : View S) (s t : Search S) : Type 0 where
  pub is_posed : t.posed ≡ true
  pub steps : t.steps ≡ s.steps + 1
  pub book : t.book ≡ s.book
  pub stock : t.stock ≡ s.stock
  pub others : Untouched v s t
  pub stands : (rules : Rules) (rule : Rule) (T : State) (es : List Entry) → StandsFor v s rules rule T es → SteppedTo v t rules rule es

pub record NoMore {S : Type 0} (v : View S) (s t : Search S) (e : Stop) : Type 0 where
  pub same : Same v s t
  pub barred :
      (rules : Rules) (rule : Rule) (T : State) (es : List Entry) → StandsFor v s rules rule T es
      → (A : MachineTree) × (T ≡ Some A) × Barred v s rules A e

abbrev pub AdvanceDoes : {S : Type 0} → View S → Search S → Result (Unit {0}) Stop → Search S → Type 0
AdvanceDoes v s (Ok u) t = OneMore v s t
AdvanceDoes v s (Err e) t = NoMore v s t e

-- pose, when what the search held is released
pub record Holding (m : Meaning) (d : Bool) (t : Tree) (w : Option Found) (p : Vec (Box Tree Global) Global) : Type 0 where
  pub live : (x : ℕ) → Among d t x ⊎ Holds w x → m.live x ≡ true
  pub apart : AllApart d t
  pub parted : (x : ℕ) → Holds w x → Among d t x → ⊥
  pub room : vec_len p + boxes t ≤ vec_capacity p

pub record Emptied (m n : Meaning) (d : Bool) (t : Tree) (w : Option Found) (p q : Vec (Box Tree Global) Global) : Type 0 where
  pub bank : Cleared m n (λ x. Among d t x ⊎ Holds w x) (standing d t + held w)
  pub spare_boxes : vec_len q ≡ vec_len p + boxes t
  pub room : vec_capacity q ≡ vec_capacity p

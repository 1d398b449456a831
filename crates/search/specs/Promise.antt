-- What is promised of any two searches, whatever calls led to them. Assumes nothing.
--
--   by_step        the answers that came at step t or before
--   Alike          two lists of answers: the same in number, order, step and solutions
--   Chosen         the machine, from the leaf that pose starts, answers with these choices at step t
--   AnsweredOnce   exactly one of the answers has the choices; it came by step w, and holds the values
--   Complete       each derivation of weight w is answered once by step w, or before exhausted was said
--   Shown          values are those of a derivation with the choices of the answer at step t
--   Sound          the values of each solution of an answer are shown
--   Waits          the answer that waits is the latest, and its store has its solutions still
--   Untouched      a store that was live before new is live, has its solutions, and is not the search's
--   Promised       all of this, of two histories
--   Promise        so for any histories of the two over banks of one kind that last posed the same rule of equal books
--
-- Solutions are read on the variables 0 to p - 1, where p is how many parameters the rule has.
use Rattle.std.specs.Prelude.{◌≡◌, ℕ, ◌≤◌, min, Bool, true, cond, ◌⊎◌, List, [], ◌∷◌, ◌++◌, Some, nat_le}
use Rattle.bank.specs.Kinds.{Value, Kind, Assignment}
use Rattle.bank.specs.Views.{View}
use Rattle.book.specs.Language.{Each}
use Rattle.machine.specs.Machine.{Side, Answer as Given, State, Run, Entry}
use Rattle.machine.specs.Derivations.{Deriv, weight, choices, Posable, Occurs, SameSolutions}
use Rattle.machine.specs.Theorems.{Derived}
use Rattle.search.specs.declared.Search.{Search}
use Rattle.frontier.specs.declared.tree.Found.{Found}
use Rattle.search.specs.Calls.{Mine}
use Rattle.search.specs.History.{History, Subject, rule_of, Answer, subject, answers, exhausted}

abbrev pub by_step : ℕ → List Answer → List Answer
by_step t [] = []
by_step t (x ∷ xs) = cond (nat_le x.step t) (x ∷ by_step t xs) (by_step t xs)

pub record SameAnswer (p : ℕ) (x y : Answer) : Type 0 where
  pub step : x.step ≡ y.step
  pub solutions : SameSolutions p x.solutions y.solutions

abbrev pub Alike : ℕ → List Answer → List Answer → Type 0
Alike p [] [] = Unit {0}
Alike p [] (y ∷ ys) = ⊥
Alike p (x ∷ xs) [] = ⊥
Alike p (x ∷ xs) (y ∷ ys) = SameAnswer p x y × Alike p xs ys

pub record Chosen (K : Kind) (q : Subject) (t : ℕ) (ch : List Side) : Type 0 where
  pub state : State
  pub before : List Entry
  pub answer : Given
  pub run : Run K q.rules (rule_of q) t state (before ++ (record { step = t; answer = answer } ∷ []))
  pub its_choices : answer.choices ≡ ch

pub record AnsweredOnce (K : Kind) (q : Subject) (xs : List Answer) (ch : List Side) (w : ℕ) (vs : List Value) : Type 0 where
  pub before : List Answer
  pub found : Answer
  pub after : List Answer
  pub place : xs ≡ before ++ (found ∷ after)
  pub its_choices : Chosen K q found.step ch
  pub none_before : Each (λ x. Chosen K q x.step ch → ⊥) before
  pub none_after : Each (λ x. Chosen K q x.step ch → ⊥) after
  pub in_time : found.step ≤ w
  pub occurs : Occurs (rule_of q).params found.solutions vs

abbrev pub Complete : Kind → Subject → List Answer → ℕ → Bool → Type 0
Complete K q xs t over =
    (vs : List Value) → Posable K (rule_of q) vs → (D : Deriv K q.rules (rule_of q).goal vs)
    → (weight D ≤ t) ⊎ (over ≡ true) → AnsweredOnce K q xs (choices D) (weight D) vs

pub record Shown (K : Kind) (q : Subject) (t : ℕ) (vs : List Value) : Type 0 where
  pub its_choices : List Side
  pub chosen : Chosen K q t its_choices
  pub derived : Derived K q.rules (rule_of q) its_choices vs

abbrev pub Sound : Kind → Subject → List Answer → Type 0
Sound K q xs = Each (λ x. (vs : List Value) → Occurs (rule_of q).params x.solutions vs → Shown K q x.step vs) xs

pub record Waits {S : Type 0} (v : View S) (s : Search S) (x : Found) (xs : List Answer) : Type 0 where
  pub before : List Answer
  pub latest : Answer
  pub place : xs ≡ before ++ (latest ∷ [])
  pub step : latest.step ≡ s.steps
  pub solutions : (σ : Assignment) → (v.meaning s.bank).solutions x.store σ ≡ latest.solutions σ

pub record Untouched {S : Type 0} (v : View S) (bank : S) (s : Search S) : Type 0 where
  pub live : (x : ℕ) → (v.meaning bank).live x ≡ true → (v.meaning s.bank).live x ≡ true
  pub solutions : (x : ℕ) → (v.meaning bank).live x ≡ true → (σ : Assignment) → (v.meaning s.bank).solutions x σ ≡ (v.meaning bank).solutions x σ
  pub theirs : (x : ℕ) → (v.meaning bank).live x ≡ true → Mine s x → ⊥

module _ {A B : Type 0} {v : View A} {w : View B} {a : A} {b : B} {s : Search A} {t : Search B} where
  pub record Promised (h : History v a s) (k : History w b t) (q : Subject) : Type 0 where
    -- up to the smaller number of steps the answers are alike
    pub alike : Alike (rule_of q).params (by_step (min s.steps t.steps) (answers h)) (by_step (min s.steps t.steps) (answers k))
    -- and none goes on where the other is exhausted
    pub left_ends : exhausted h ≡ true → t.steps ≤ s.steps
    pub right_ends : exhausted k ≡ true → s.steps ≤ t.steps
    pub left_complete : Complete v.kind q (answers h) s.steps (exhausted h)
    pub right_complete : Complete w.kind q (answers k) t.steps (exhausted k)
    pub left_sound : Sound v.kind q (answers h)
    pub right_sound : Sound w.kind q (answers k)
    pub left_waits : (x : Found) → s.waiting ≡ Some x → Waits v s x (answers h)
    pub right_waits : (x : Found) → t.waiting ≡ Some x → Waits w t x (answers k)
    pub left_untouched : Untouched v a s
    pub right_untouched : Untouched w b t

abbrev pub Promise : {A B : Type 0} → View A → View B → Search A → Search B → Type 0
Promise {A} {B} v w s t =
    (a : A) (b : B) (h : History v a s) (k : History w b t) (q : Subject)
    → v.kind ≡ w.kind → subject h ≡ Some q → subject k ≡ Some q → Promised h k q

-- No choices lead to two answers: the answers that wait in the two trees of a branch differ in a choice that both made. Assumes nothing.
use Rattle.std.proofs.Common.{◌≡◌, ℕ, List, [], ◌∷◌, ◌++◌, Some, None, Option, sym, refl, ap, ◌∙◌, append_assoc, arith}
use mathlib.Core.List.{append_cancel_left}
use Rattle.bank.specs.Kinds.{Kind, Condition}
use Rattle.book.specs.Language.{Goal, Rules}
use Rattle.machine.specs.Machine.{Side, left, right, Frame, Answer, Tree, State, leaf, branch, chain, Step}
use Rattle.machine.specs.Machine.{step_tell_lem, step_fail, step_conj, step_disj, step_fresh, step_call, step_branch, step_chain}
use Rattle.machine.proofs.Shapes.{Shape, leads, shape_choices, leads_choices}
use Rattle.machine.proofs.Waiting.{from, Waits, at_leaf, in_first, in_second, in_chain, Gives, given, Remains, still, waited_given, waited_left}

-- The choices of two answers part somewhere: neither list begins with the other.
abbrev pub Apart : Answer → Answer → Type 0
Apart a b = (x y : List Side) → a.choices ++ x ≡ b.choices ++ y → ⊥

-- In each branch of the tree, the answers of the first tree are apart from those of the second.
abbrev pub Separate : Rules → Tree → Type 0
Separate rules (leaf g f n told ch) = Unit {0}
Separate rules (branch A B) =
    Separate rules A × Separate rules B × ((a b : Answer) (d e : ℕ) → Waits rules A a d → Waits rules B b e → Apart a b)
Separate rules (chain A g f) = Separate rules A

abbrev pub SeparateLeft : Rules → State → Type 0
SeparateLeft rules None = Unit {0}
SeparateLeft rules (Some T) = Separate rules T

swap_apart : (a b : Answer) → Apart a b → Apart b a
swap_apart a b h x y e = h y x (sym e)

-- the two sides of an `or` are apart
sides_apart : (n : ℕ) (told : List Condition) (ch : List Side) → Apart (from n told (ch ++ (left ∷ []))) (from n told (ch ++ (right ∷ [])))
sides_apart n told ch x y e =
    let one : left ∷ x ≡ right ∷ y = append_cancel_left ch _ _ (sym (append_assoc ch (left ∷ []) x) ∙ e ∙ append_assoc ch (right ∷ []) y) in
    let z : ◌≡◌ {A = ℕ} 0 1 = cc in
    omega arith

module _ {rules : Rules} where
  -- answers that go on from two that are apart are apart
  apart_on :
      {g h : Goal} (s : Shape rules g) (t : Shape rules h) (f f' : Frame) (a b c d : Answer)
      → leads s f a ≡ c → leads t f' b ≡ d → Apart a b → Apart c d
  apart_on s t f f' a b c d p q h x y e =
      h (shape_choices s ++ x) (shape_choices t ++ y)
      (on s f a c p x ∙ e ∙ sym (on t f' b d q y))
    where
      on : {g : Goal} (s : Shape rules g) (f : Frame) (a c : Answer) → leads s f a ≡ c → (x : List Side) → a.choices ++ (shape_choices s ++ x) ≡ c.choices ++ x
      on s f a c p x = sym (append_assoc a.choices (shape_choices s) x) ∙ ap (λ (l : List Side). l ++ x) (sym (leads_choices s f a) ∙ ap (λ (r : Answer). r.choices) p)

  -- what a step gives is apart from what it leaves
  pub step_apart :
      {K : Kind} {T : Tree} {o : Option Answer} {S : State} {a b : Answer} {w : ℕ}
      → Separate rules T → Gives o a → Step K rules T o S → Remains rules S b w → Apart a b
  step_apart sep (given e) (step_tell_lem σ h) r = elim r [ ]
  step_apart sep (given e) (step_branch {A' = None} st) (still i) =
      let was = waited_given (given e) st in sep.2 _ _ _ _ was.1 i
  step_apart sep (given e) (step_branch {A' = Some A'} st) (still (in_first i l)) =
      let was = waited_given (given e) st in sep.2 _ _ _ _ was.1 i
  step_apart sep (given e) (step_branch {A' = Some A'} st) (still (in_second i l)) = step_apart sep.0 (given e) st (still i)

  -- a step leaves a tree separate
  pub step_separate :
      {K : Kind} {T : Tree} {o : Option Answer} {S : State}
      → Separate rules T → Step K rules T o S → SeparateLeft rules S
  step_separate sep (step_tell_lem σ h) = tt
  step_separate sep (step_fail h) = tt
  step_separate sep step_conj = tt
  step_separate sep (step_disj {f = f} {n = n} {told = told} {ch = ch}) = (tt, tt, apart)
    where
      apart : {g h : Goal} (a b : Answer) (d e : ℕ)
          → Waits rules (leaf g f n told (ch ++ (left ∷ []))) a d → Waits rules (leaf h f n told (ch ++ (right ∷ []))) b e → Apart a b
      apart a b d e (at_leaf s p l) (at_leaf t q l') = apart_on s t f f _ _ a b p q (sides_apart n told ch)
  step_separate sep step_fresh = tt
  step_separate sep step_call = tt
  step_separate sep (step_branch {A' = None} st) = sep.1
  step_separate sep (step_branch {A' = Some A'} st) =
      (sep.1, step_separate sep.0 st, λ a b d e i j. let was = waited_left st (still j) in swap_apart b a (sep.2 b a _ d was.1 i))
  step_separate sep (step_chain {o = None} {A' = None} st) = tt
  step_separate sep (step_chain {o = None} {A' = Some A'} st) = step_separate sep st
  step_separate sep (step_chain {o = Some c} {A' = None} st) = tt
  step_separate {K} sep (step_chain {A = A} {g = g} {f = f} {o = Some c} {A' = Some A'} st) = (tt, step_separate sep st, apart sep st)
    where
      apart : Separate rules A → Step K rules A (Some c) (Some A') → (a b : Answer) (d e : ℕ)
          → Waits rules (leaf g f c.n c.told c.choices) a d → Waits rules (chain A' g f) b e → Apart a b
      apart sep st a b d e (at_leaf s p l) (in_chain {b = b'} i t q l') =
          apart_on s t f f c b' a b p q (step_apart sep (given refl) st (still i))

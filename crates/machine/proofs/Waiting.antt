-- Which answers wait in a tree, and for how many steps at most: each step gives a waiting answer or brings it nearer. Assumes nothing.
use Rattle.std.proofs.Common.{◌≡◌, ℕ, zero, suc, ◌+◌, ◌-◌, ◌*◌, ◌^◌, ◌≤◌, ◌⊎◌, List, Some, None, Option, sym, refl, ap, ◌∙◌, subst, inl, inr, le_refl, mul-le-mul_right, mul_assoc, one-mul, arith, pow_pos}
use native.Mathlib.Nat.{pow-succ'}
use Rattle.bank.specs.Kinds.{Condition, Kind, Assignment, Solves}
use Rattle.book.specs.Language.{Goal, Rules}
use Rattle.machine.specs.Machine.{Side, Frame, Answer, Tree, State, leaf, branch, chain, Step, turn, taken_up}
use Rattle.machine.specs.Machine.{step_tell_lem, step_fail, step_conj, step_disj, step_fresh, step_call, step_branch, step_chain}
use Rattle.machine.specs.Derivations.{conj_weight}
use Rattle.machine.proofs.Shapes.{Shape, s_tell, s_conj, s_left, s_right, s_fresh, s_call, leads, shape_weight}
use Rattle.machine.proofs.Solutions.{solves_back}

-- The answer from which a leaf starts.
abbrev pub from : ℕ → List Condition → List Side → Answer
from n told ch = record { n = n; told = told; choices = ch }

-- The answer waits in the tree for at most so many steps.
pub data Waits (rules : Rules) : Tree → Answer → ℕ → Type 0 where
  at_leaf :
      {g : Goal} {f : Frame} {n : ℕ} {told : List Condition} {ch : List Side} {a : Answer} {w : ℕ}
      → (s : Shape rules g) → leads s f (from n told ch) ≡ a → shape_weight s ≤ w → Waits rules (leaf g f n told ch) a w
  in_first : {A B : Tree} {a : Answer} {d w : ℕ} → Waits rules A a d → 2 * d ≤ w + 1 → Waits rules (branch A B) a w
  in_second : {A B : Tree} {a : Answer} {d w : ℕ} → Waits rules B a d → 2 * d ≤ w → Waits rules (branch A B) a w
  in_chain :
      {A : Tree} {g : Goal} {f : Frame} {a b : Answer} {d w : ℕ}
      → Waits rules A b d → (s : Shape rules g) → leads s f b ≡ a → conj_weight d (shape_weight s) ≤ w + 1 → Waits rules (chain A g f) a w

-- The answer is the one that a step gave.
pub data Gives : Option Answer → Answer → Type 0 where
  given : {a b : Answer} → b ≡ a → Gives (Some b) a

-- The answer waits in what a step left.
pub data Remains (rules : Rules) : State → Answer → ℕ → Type 0 where
  still : {T : Tree} {a : Answer} {w : ℕ} → Waits rules T a w → Remains rules (Some T) a w

-- the weight of an `and` is more than twice that of its second goal, and doubles where the first weighs one more
conj_least : (d e : ℕ) → 2 * e + 1 ≤ conj_weight d e
conj_least d e = subst (λ (x : ℕ). x ≤ conj_weight d e) (one-mul (2 * e + 1)) (mul-le-mul_right (2 * e + 1) (pow_pos (d - 1)))

conj_more : (d e : ℕ) → 1 ≤ d → 2 * conj_weight d e ≡ conj_weight (suc d) e
conj_more zero e h = absurd (omega arith)
conj_more (suc d) e h =
    sym (mul_assoc 2 (2 ^ (suc d - 1)) (2 * e + 1)) ∙ ap (λ (p : ℕ). p * (2 * e + 1)) (sym (pow-succ' 2 (suc d - 1)) ∙ ap (λ (k : ℕ). 2 ^ k) (omega arith))

module _ {rules : Rules} where
  shape_positive : {g : Goal} (s : Shape rules g) → 1 ≤ shape_weight s
  shape_positive s_tell = omega arith
  shape_positive (s_conj s t) = let least = conj_least (shape_weight s) (shape_weight t) in omega arith
  shape_positive (s_left s) = let ih = shape_positive s in omega arith
  shape_positive (s_right s) = omega arith
  shape_positive (s_fresh s) = omega arith
  shape_positive (s_call s) = omega arith

  -- no answer waits for no step
  pub waits_positive : {T : Tree} {a : Answer} {w : ℕ} → Waits rules T a w → 1 ≤ w
  waits_positive (at_leaf s e h) = let p = shape_positive s in omega arith
  waits_positive (in_first i h) = let p = waits_positive i in omega arith
  waits_positive (in_second i h) = let p = waits_positive i in omega arith
  waits_positive (in_chain {d = d} i s e h) =
      let p = shape_positive s in let least = conj_least d (shape_weight s) in omega arith

  -- an answer that waits in a chain's tree, taken up
  in_rest :
      {A : Tree} {g : Goal} {f : Frame} {a b : Answer}
      → (w : ℕ) × Waits rules A b w → (s : Shape rules g) → leads s f b ≡ a → (w : ℕ) × Waits rules (chain A g f) a w
  in_rest i s e = (conj_weight i.0 (shape_weight s), in_chain i.1 s e (omega arith))

  -- what a step gives waited in the tree before
  pub waited_given :
      {K : Kind} {T : Tree} {o : Option Answer} {S : State} {a : Answer}
      → Gives o a → Step K rules T o S → (w : ℕ) × Waits rules T a w
  waited_given (given e) (step_tell_lem σ h) = (1, at_leaf s_tell e (le_refl _))
  waited_given (given e) (step_branch st) = let i = waited_given (given e) st in (2 * i.0, in_first i.1 (omega arith))

  -- what waits in what a step leaves waited in the tree before
  pub waited_left :
      {K : Kind} {T : Tree} {o : Option Answer} {S : State} {a : Answer} {w : ℕ}
      → Step K rules T o S → Remains rules S a w → (v : ℕ) × Waits rules T a v
  waited_left (step_tell_lem σ h) r = elim r [ ]
  waited_left (step_fail h) r = elim r [ ]
  waited_left (step_conj {f = f}) (still (in_chain (at_leaf s e h) t e' h')) = (_, at_leaf (s_conj s t) (ap (leads t f) e ∙ e') (le_refl _))
  waited_left step_disj (still (in_first (at_leaf s e h) h')) = (_, at_leaf (s_left s) e (le_refl _))
  waited_left step_disj (still (in_second (at_leaf s e h) h')) = (_, at_leaf (s_right s) e (le_refl _))
  waited_left step_fresh (still (at_leaf s e h)) = (_, at_leaf (s_fresh s) e (le_refl _))
  waited_left step_call (still (at_leaf s e h)) = (_, at_leaf (s_call s) e (le_refl _))
  waited_left (step_branch {A' = None} st) (still r) = (_, in_second r (le_refl _))
  waited_left (step_branch {A' = Some A'} st) (still (in_first r h)) = (_, in_second r (le_refl _))
  waited_left (step_branch {A' = Some A'} st) (still (in_second r h)) =
      let i = waited_left st (still r) in (2 * i.0, in_first i.1 (omega arith))
  waited_left (step_chain {o = None} {A' = None} st) r = elim r [ ]
  waited_left (step_chain {o = None} {A' = Some A'} st) (still (in_chain r s e h)) = in_rest (waited_left st (still r)) s e
  waited_left (step_chain {o = Some b} {A' = None} st) (still (at_leaf s e h)) = in_rest (waited_given (given refl) st) s e
  waited_left (step_chain {o = Some b} {A' = Some A'} st) (still (in_first (at_leaf s e h) h')) = in_rest (waited_given (given refl) st) s e
  waited_left (step_chain {o = Some b} {A' = Some A'} st) (still (in_second (in_chain r s e h) h')) = in_rest (waited_left st (still r)) s e

  -- an answer may wait longer
  longer : {T : Tree} {a : Answer} {d w : ℕ} → Waits rules T a d → d ≤ w → Waits rules T a w
  longer (at_leaf s e l) h = at_leaf s e (omega arith)
  longer (in_first i l) h = in_first i (omega arith)
  longer (in_second i l) h = in_second i (omega arith)
  longer (in_chain i s e l) h = in_chain i s e (omega arith)

  -- a branch after its first tree's step, for an answer of the first tree and for one of the second
  first_turn :
      (B : Tree) {o : Option Answer} {S : State} {a : Answer} {d w : ℕ}
      → 2 * suc d ≤ suc w + 1 → Gives o a ⊎ Remains rules S a d → Gives o a ⊎ Remains rules (Some (turn B S)) a w
  first_turn B l (inl y) = inl y
  first_turn B l (inr (still i)) = inr (still (in_second i (omega arith)))

  second_turn : {B : Tree} (S : State) {a : Answer} {d w : ℕ} → Waits rules B a d → 2 * d ≤ suc w → Waits rules (turn B S) a w
  second_turn None i l = let p = waits_positive i in longer i (omega arith)
  second_turn (Some A) i l = in_first i (omega arith)

  -- a chain after its tree's step, for an answer that goes on from one of that tree
  next_part :
      {g : Goal} (f : Frame) {a b : Answer} {d w : ℕ} (o : Option Answer) (S : State)
      → Gives o b ⊎ Remains rules S b d → (s : Shape rules g) → leads s f b ≡ a → conj_weight (suc d) (shape_weight s) ≤ suc w + 1
      → Remains rules (taken_up o S g f) a w
  next_part f None S (inl y) s e l = elim y [ ]
  next_part f {d = d} (Some c) None (inl (given e')) s e l =
      let p = shape_positive s in
      let least = conj_least (suc d) (shape_weight s) in
      still (at_leaf s (ap (leads s f) e' ∙ e) (omega arith))
  next_part f {d = d} (Some c) (Some A) (inl (given e')) s e l =
      let least = conj_least (suc d) (shape_weight s) in
      still (in_first (at_leaf s (ap (leads s f) e' ∙ e) (le_refl _)) (omega arith))
  next_part f o None (inr r) s e l = elim r [ ]
  next_part f {d = d} None (Some A) (inr (still i)) s e l =
      let more = conj_more d (shape_weight s) (waits_positive i) in
      still (in_chain i s e (omega arith))
  next_part f {d = d} (Some c) (Some A) (inr (still i)) s e l =
      let more = conj_more d (shape_weight s) (waits_positive i) in
      still (in_second (in_chain {w = conj_weight d (shape_weight s) - 1} i s e (omega arith)) (omega arith))

  -- each step gives a waiting answer that has a solution, or brings it nearer
  pub nearer :
      {K : Kind} {T : Tree} {o : Option Answer} {S : State} {a : Answer} {w : ℕ} (σ : Assignment)
      → Step K rules T o S → Waits rules T a (suc w) → Solves K a.n a.told σ → Gives o a ⊎ Remains rules S a w
  nearer τ (step_tell_lem σ h) (at_leaf s_tell e l) k = inl (given e)
  nearer {K} τ (step_fail h) (at_leaf s_tell e l) k = absurd (h τ (subst (λ (b : Answer). Solves K b.n b.told τ) (sym e) k))
  nearer τ step_conj (at_leaf (s_conj s t) e l) k = inr (still (in_chain (at_leaf s refl (le_refl _)) t e (omega arith)))
  nearer τ step_disj (at_leaf (s_left s) e l) k = inr (still (in_first (at_leaf s e (le_refl _)) (omega arith)))
  nearer τ step_disj (at_leaf (s_right s) e l) k = inr (still (in_second (at_leaf s e (le_refl _)) (omega arith)))
  nearer τ step_fresh (at_leaf (s_fresh s) e l) k = inr (still (at_leaf s e (omega arith)))
  nearer τ step_call (at_leaf (s_call s) e l) k = inr (still (at_leaf s e (omega arith)))
  nearer τ (step_branch st) (in_first {d = zero} i l) k = absurd (let p = waits_positive i in omega arith)
  nearer τ (step_branch {B = B} st) (in_first {d = suc d} i l) k = first_turn B l (nearer τ st i k)
  nearer τ (step_branch {A' = S} st) (in_second i l) k = inr (still (second_turn S i l))
  nearer τ (step_chain st) (in_chain {d = zero} i s e l) k = absurd (let p = waits_positive i in omega arith)
  nearer {K} τ (step_chain {f = f} {o = o} {A' = S} st) (in_chain {b = b} {d = suc d} i s e l) k =
      inr (next_part f o S (nearer τ st i (solves_back K τ s f b (subst (λ (c : Answer). Solves K c.n c.told τ) (sym e) k))) s e l)

-- Each way through a step of a branch or a chain, as a step of the machine. Assumes nothing.
use Rattle.std.proofs.Common.{◌≡◌, ℕ, Bool, true, false, ◌⊎◌, length, Some, None, Option, Box, sym, refl, ap, ◌∙◌, subst, inl, inr, arith}
use Rattle.std.proofs.lemmas.Bool.{both_ways}
use Rattle.std.specs.declared.alloc.Global.{Global}
use Rattle.frontier.specs.declared.tree.Tree.{Tree, Branch, Chain}
use Rattle.frontier.specs.declared.tree.Tree.TheVariants.{Leaf, Branch', Chain'}
use Rattle.row.specs.declared.ShortRow.{ShortRow}
use Rattle.frontier.specs.declared.tree.Found.{Found}
use Rattle.book.specs.declared.Book.{Book}
use Rattle.frontier.specs.declared.stop.Stop.{Stop}
use Rattle.frontier.specs.declared.stop.Stop.TheVariants.{Nodes, Variables, Stores}
use Rattle.bank.specs.Kinds.{Kind}
use Rattle.book.specs.Language.{Goal, Rules}
use Rattle.machine.specs.Machine.{Frame, Answer, State, Tree as MachineTree, leaf, branch, chain, Step, step_branch, step_chain, leaf_from}
use Rattle.bank.specs.Views.{Meaning}
use Rattle.frontier.specs.Books.{Reads}
use Rattle.row.specs.Shorts.{items}
use Rattle.frontier.specs.Trees.{In, Apart, leaves, Stands, Left, Answers, Given, Elsewhere}
use Rattle.frontier.specs.Steps.{Ready, Went, Stops, TakesUp}

module _ (K : Kind) (V : ℕ) (book : Book) (m : Meaning) where
  -- each store of a tree is live
  pub stands_live : (t : Tree) (T : MachineTree) → Stands K V book m t T → (x : ℕ) → In t x → m.live x ≡ true
  stands_live (Leaf l) (leaf g f n told ch) s x i = sym (ap m.live i) ∙ s.store.live
  stands_live (Leaf l) (branch A B) s x i = absurd s
  stands_live (Leaf l) (chain A g f) s x i = absurd s
  stands_live (Branch' p a q b) (leaf g f n told ch) s x i = absurd s
  stands_live (Branch' p a q b) (branch A B) s x (inl i) = stands_live a A s.0 x i
  stands_live (Branch' p a q b) (branch A B) s x (inr i) = stands_live b B s.1 x i
  stands_live (Branch' p a q b) (chain A g f) s x i = absurd s
  stands_live (Chain' p a h e) (leaf g f n told ch) s x i = absurd s
  stands_live (Chain' p a h e) (branch A B) s x i = absurd s
  stands_live (Chain' p a h e) (chain A g f) s x i = stands_live a A s.0 x i

  -- what changes elsewhere leaves a tree standing
  pub frame :
      {n : Meaning} (P : ℕ → Type 0) → Elsewhere m n P → (t : Tree) (T : MachineTree) → ((x : ℕ) → In t x → P x → ⊥)
      → Stands K V book m t T → Stands K V book n t T
  frame P e (Leaf l) (leaf g f n told ch) off_it s = record {
    goal = s.goal;
    frame = s.frame;
    count = s.count;
    within = s.within;
    store = record {
      live = e.live l.store (off_it l.store refl) s.store.live;
      solutions = λ σ. e.solutions l.store (off_it l.store refl) s.store.live σ ∙ s.store.solutions σ;
    };
  }
  frame P e (Leaf l) (branch A B) off_it s = absurd s
  frame P e (Leaf l) (chain A g f) off_it s = absurd s
  frame P e (Branch' p a q b) (leaf g f n told ch) off_it s = absurd s
  frame P e (Branch' p a q b) (branch A B) off_it s =
      (frame P e a A (λ x i. off_it x (inl i)) s.0, frame P e b B (λ x i. off_it x (inr i)) s.1)
  frame P e (Branch' p a q b) (chain A g f) off_it s = absurd s
  frame P e (Chain' p a h k) (leaf g f n told ch) off_it s = absurd s
  frame P e (Chain' p a h k) (branch A B) off_it s = absurd s
  frame P e (Chain' p a h k) (chain A g f) off_it s = (frame P e a A off_it s.0, s.1, s.2)

module _ (K : Kind) (V : ℕ) (n : Meaning) where
  pub no_answer : (o : Option Answer) → Given K V n None o → o ≡ None
  no_answer None h = refl
  no_answer (Some a) h = absurd h

  pub an_answer : (y : Found) (o : Option Answer) → Given K V n (Some y) o → (a : Answer) × (o ≡ Some a) × Answers K V n y a
  an_answer y None h = absurd h
  an_answer y (Some a) h = (a, refl, h)

module _ (K : Kind) (V : ℕ) (book : Book) (n : Meaning) where
  pub nothing_left : (u : Tree) (S : State) → Left K V book n true u S → S ≡ None
  nothing_left u None h = refl
  nothing_left u (Some A) h = absurd h

  pub some_left : (u : Tree) (S : State) → Left K V book n false u S → (A : MachineTree) × (S ≡ Some A) × Stands K V book n u A
  some_left u None h = absurd h
  some_left u (Some A) h = (A, refl, h)

wider : {m n : Meaning} (P Q : ℕ → Type 0) → ((x : ℕ) → P x → Q x) → Elsewhere m n P → Elsewhere m n Q
wider P Q f e = record { live = λ x off_it h. e.live x (λ p. off_it (f x p)) h; solutions = λ x off_it h σ. e.solutions x (λ p. off_it (f x p)) h σ }

-- A branch's state is a branch.
pub record AtBranch (K : Kind) (V : ℕ) (book : Book) (rules : Rules) (m : Meaning) (a b : Tree) (T : MachineTree) : Type 0 where
  pub A : MachineTree
  pub B : MachineTree
  pub is : branch A B ≡ T
  pub first : Ready K V book rules m a A
  pub second : Ready K V book rules m b B
  pub apart : (x : ℕ) → In a x → In b x → ⊥

pub at_branch : {K : Kind} {V : ℕ} {book : Book} {rules : Rules} {m : Meaning} (a b : Box Tree Global) (T : MachineTree) → Ready K V book rules m (Branch a b) T → AtBranch K V book rules m a.value b.value T
at_branch a b (leaf g f n told ch) r = absurd r.stands
at_branch a b (branch A B) r = record {
  A = A;
  B = B;
  is = refl;
  first = record { copies = r.copies; stands = r.stands.0; scoped = r.scoped.0; apart = r.apart.0 };
  second = record { copies = r.copies; stands = r.stands.1; scoped = r.scoped.1; apart = r.apart.1 };
  apart = r.apart.2;
}
at_branch a b (chain A g f) r = absurd r.stands

-- A chain's state is a chain.
pub record AtChain (K : Kind) (V : ℕ) (book : Book) (rules : Rules) (m : Meaning) (a : Tree) (i : ℕ) (e : ShortRow ℕ 16) (T : MachineTree) : Type 0 where
  pub A : MachineTree
  pub g : Goal
  pub f : Frame
  pub is : chain A g f ≡ T
  pub first : Ready K V book rules m a A
  pub reads : Reads book (length f) i g
  pub frame_is : items e ≡ f

pub at_chain : {K : Kind} {V : ℕ} {book : Book} {rules : Rules} {m : Meaning} (a : Box Tree Global) (i : ℕ) (e : ShortRow ℕ 16) (T : MachineTree) → Ready K V book rules m (Chain a i e) T → AtChain K V book rules m a.value i e T
at_chain a i e (leaf g f n told ch) r = absurd r.stands
at_chain a i e (branch A B) r = absurd r.stands
at_chain a i e (chain A g f) r = record {
  A = A;
  g = g;
  f = f;
  is = refl;
  first = record { copies = r.copies; stands = r.stands.0; scoped = r.scoped.0; apart = r.apart };
  reads = r.stands.1;
  frame_is = r.stands.2;
}

-- the leaf that takes up an answer
abbrev pub taken : ℕ → ShortRow ℕ 16 → Found → Tree
taken i e y = Leaf (record { goal = i; frame = e; n = y.n; store = y.store })

step_as : {K : Kind} {rules : Rules} {A : MachineTree} {o o' : Option Answer} {S S' : State} → o ≡ o' → S ≡ S' → Step K rules A o S → Step K rules A o' S'
step_as {K} {rules} {A} {o} {o'} {S} e h s = subst (λ (S : State). Step K rules A o' S) h (subst (λ (o : Option Answer). Step K rules A o S) e s)

module _ {K : Kind} {V : ℕ} {book : Book} {rules : Rules} {m n : Meaning} where
  pub branch_ended :
      (a b : Box Tree Global) (u w : Tree) (T : MachineTree) (x : Option Found) → w ≡ b.value → Ready K V book rules m (Branch a b) T
      → ((A : MachineTree) → Ready K V book rules m a.value A → Went K V book rules m n a.value u A x true)
      → Went K V book rules m n (Branch a b) w T x false
  branch_ended a b u w T x e r sub =
      let k = at_branch a b T r in
      let s = sub k.A k.first in
      let none_left = nothing_left K V book n u s.rest s.left in
      let b_live = stands_live K V book m b.value k.B k.second.stands in
      let off : (z : ℕ) → In b.value z → In a.value z ⊎ (m.live z ≡ false) → ⊥ = λ z i h.
      elim h [ inl j ↦ k.apart z j i | inr j ↦ both_ways (m.live z) j (b_live z i) ] in
      subst (λ (S : MachineTree). Went K V book rules m n (Branch a b) w S x false) k.is
      (record {
        given = s.given;
        rest = Some k.B;
        step = step_branch (step_as refl none_left s.step);
        left = subst (λ (w : Tree). Stands K V book n w k.B) (sym e) (frame K V book m (In a.value) s.others b.value k.B (λ z i j. k.apart z j i) k.second.stands);
        answer = s.answer;
        mine = λ z h. elim h [
          | inl i ↦ inl (inr (subst (λ (w : Tree). In w z) e i))
          | inr i ↦ elim (s.mine z (inr i)) [ inl j ↦ inl (inl j) | inr j ↦ inr j ]
        ];
        gone = λ z no h. s.gone z (λ o. elim o [ inl y ↦ absurd y | inr y ↦ no (inr y) ]) (elim h [
          | inl (inl j) ↦ inl j
          | inl (inr j) ↦ absurd (no (inl (subst (λ (w : Tree). In w z) (sym e) j)))
          | inr j ↦ inr j
        ]);
        others = wider (In a.value) (In (Branch a b)) (λ z i. inl i) s.others;
        apart = subst Apart (sym e) k.second.apart;
        parted = λ z h i. off z (subst (λ (w : Tree). In w z) e i) (s.mine z (inr h));
        spare = omega (arith, s.spare, ap leaves e);
      })

  pub branch_on :
      (a b p q : Box Tree Global) (u : Tree) (T : MachineTree) (x : Option Found) → p.value ≡ b.value → q.value ≡ u → Ready K V book rules m (Branch a b) T
      → ((A : MachineTree) → Ready K V book rules m a.value A → Went K V book rules m n a.value u A x false)
      → Went K V book rules m n (Branch a b) (Branch p q) T x false
  branch_on a b p q u T x e f r sub =
      let k = at_branch a b T r in
      let s = sub k.A k.first in
      let go = some_left K V book n u s.rest s.left in
      let b_live = stands_live K V book m b.value k.B k.second.stands in
      let off : (z : ℕ) → In b.value z → In a.value z ⊎ (m.live z ≡ false) → ⊥ = λ z i h.
      elim h [ inl j ↦ k.apart z j i | inr j ↦ both_ways (m.live z) j (b_live z i) ] in
      let in_p : (z : ℕ) → In p.value z → In b.value z = λ z i. subst (λ (w : Tree). In w z) e i in
      let in_q : (z : ℕ) → In q.value z → In u z = λ z i. subst (λ (w : Tree). In w z) f i in
      let ours : (z : ℕ) → In a.value z ⊎ (m.live z ≡ false) → (In a.value z ⊎ In b.value z) ⊎ (m.live z ≡ false) = λ z h. elim h [ inl j ↦ inl (inl j) | inr j ↦ inr j ] in
      subst (λ (S : MachineTree). Went K V book rules m n (Branch a b) (Branch p q) S x false) k.is
      (record {
        given = s.given;
        rest = Some (branch k.B go.0);
        step = step_branch (step_as refl go.1 s.step);
        left = (
          subst (λ (w : Tree). Stands K V book n w k.B) (sym e) (frame K V book m (In a.value) s.others b.value k.B (λ z i j. k.apart z j i) k.second.stands),
          subst (λ (w : Tree). Stands K V book n w go.0) (sym f) go.2,
        );
        answer = s.answer;
        mine = λ z h. elim h [
          | inl (inl i) ↦ inl (inr (in_p z i))
          | inl (inr i) ↦ ours z (s.mine z (inl (in_q z i)))
          | inr i ↦ ours z (s.mine z (inr i))
        ];
        gone = λ z no h. s.gone z (λ o. elim o [ inl y ↦ no (inl (inr (subst (λ (w : Tree). In w z) (sym f) y))) | inr y ↦ no (inr y) ]) (elim h [
          | inl (inl j) ↦ inl j
          | inl (inr j) ↦ absurd (no (inl (inl (subst (λ (w : Tree). In w z) (sym e) j))))
          | inr j ↦ inr j
        ]);
        others = wider (In a.value) (In (Branch a b)) (λ z i. inl i) s.others;
        apart = (subst Apart (sym e) k.second.apart, subst Apart (sym f) s.apart, λ z i j. off z (in_p z i) (s.mine z (inl (in_q z j))));
        parted = λ z h i. elim i [ inl j ↦ off z (in_p z j) (s.mine z (inr h)) | inr j ↦ s.parted z h (in_q z j) ];
        spare = omega (arith, s.spare, ap leaves e, ap leaves f);
      })

  pub chain_ended :
      (a : Box Tree Global) (i : ℕ) (e : ShortRow ℕ 16) (u w : Tree) (T : MachineTree) → Ready K V book rules m (Chain a i e) T
      → ((A : MachineTree) → Ready K V book rules m a.value A → Went K V book rules m n a.value u A None true)
      → Went K V book rules m n (Chain a i e) w T None true
  chain_ended a i e u w T r sub =
      let k = at_chain a i e T r in
      let s = sub k.A k.first in
      subst (λ (S : MachineTree). Went K V book rules m n (Chain a i e) w S None true) k.is
      (record {
        given = None;
        rest = None;
        step = step_chain (step_as (no_answer K V n s.given s.answer) (nothing_left K V book n u s.rest s.left) s.step);
        left = tt;
        answer = tt;
        mine = λ z h. elim h [ inl y ↦ absurd y | inr y ↦ absurd y ];
        gone = s.gone;
        others = s.others;
        apart = tt;
        parted = λ z y h. y;
        spare = s.spare;
      })

  pub chain_on :
      (a p : Box Tree Global) (i : ℕ) (e : ShortRow ℕ 16) (u : Tree) (T : MachineTree) → p.value ≡ u → Ready K V book rules m (Chain a i e) T
      → ((A : MachineTree) → Ready K V book rules m a.value A → Went K V book rules m n a.value u A None false)
      → Went K V book rules m n (Chain a i e) (Chain p i e) T None false
  chain_on a p i e u T h r sub =
      let k = at_chain a i e T r in
      let s = sub k.A k.first in
      let go = some_left K V book n u s.rest s.left in
      let in_p : (z : ℕ) → In p.value z → In u z = λ z i. subst (λ (w : Tree). In w z) h i in
      subst (λ (S : MachineTree). Went K V book rules m n (Chain a i e) (Chain p i e) S None false) k.is
      (record {
        given = None;
        rest = Some (chain go.0 k.g k.f);
        step = step_chain (step_as (no_answer K V n s.given s.answer) go.1 s.step);
        left = (subst (λ (w : Tree). Stands K V book n w go.0) (sym h) go.2, k.reads, k.frame_is);
        answer = tt;
        mine = λ z y. elim y [ inl j ↦ s.mine z (inl (in_p z j)) | inr j ↦ absurd j ];
        gone = λ z no. s.gone z (λ o. elim o [ inl y ↦ no (inl (subst (λ (w : Tree). In w z) (sym h) y)) | inr y ↦ absurd y ]);
        others = s.others;
        apart = subst Apart (sym h) s.apart;
        parted = λ z y q. y;
        spare = omega (arith, s.spare, ap leaves h);
      })

  chain_last :
      (a : Box Tree Global) (i : ℕ) (e : ShortRow ℕ 16) (u w : Tree) (T : MachineTree) (y : Found) → w ≡ taken i e y → Ready K V book rules m (Chain a i e) T
      → ((A : MachineTree) → Ready K V book rules m a.value A → Went K V book rules m n a.value u A (Some y) true)
      → Went K V book rules m n (Chain a i e) w T None false
  chain_last a i e u w T y h r sub =
      let k = at_chain a i e T r in
      let s = sub k.A k.first in
      let o = an_answer K V n y s.given s.answer in
      subst (λ (S : MachineTree). Went K V book rules m n (Chain a i e) w S None false) k.is
      (record {
        given = None;
        rest = Some (leaf_from k.g k.f o.0);
        step = step_chain (step_as o.1 (nothing_left K V book n u s.rest s.left) s.step);
        left = subst (λ (w : Tree). Stands K V book n w (leaf_from k.g k.f o.0)) (sym h)
            (record { goal = k.reads; frame = k.frame_is; count = o.2.count; within = o.2.within; store = o.2.store });
        answer = tt;
        mine = λ z q. elim q [ inl j ↦ s.mine z (inr (subst (λ (w : Tree). In w z) h j)) | inr j ↦ absurd j ];
        gone = λ z no. s.gone z (λ o. elim o [ inl j ↦ absurd j | inr j ↦ no (inl (subst (λ (w : Tree). In w z) (sym h) j)) ]);
        others = s.others;
        apart = subst Apart (sym h) tt;
        parted = λ z q j. q;
        spare = omega (arith, s.spare, ap leaves h);
      })

  chain_split :
      (a c p q : Box Tree Global) (i : ℕ) (e : ShortRow ℕ 16) (u : Tree) (T : MachineTree) (y : Found)
      → p.value ≡ taken i e y → q.value ≡ Chain c i e → c.value ≡ u → Ready K V book rules m (Chain a i e) T
      → ((A : MachineTree) → Ready K V book rules m a.value A → Went K V book rules m n a.value u A (Some y) false)
      → Went K V book rules m n (Chain a i e) (Branch p q) T None false
  chain_split a c p q i e u T y hp hq hc r sub =
      let k = at_chain a i e T r in
      let s = sub k.A k.first in
      let o = an_answer K V n y s.given s.answer in
      let go = some_left K V book n u s.rest s.left in
      let in_p : (z : ℕ) → In p.value z → y.store ≡ z = λ z i. subst (λ (w : Tree). In w z) hp i in
      let in_q : (z : ℕ) → In q.value z → In u z = λ z i. subst (λ (w : Tree). In w z) hc (subst (λ (w : Tree). In w z) hq i) in
      subst (λ (S : MachineTree). Went K V book rules m n (Chain a i e) (Branch p q) S None false) k.is
      (record {
        given = None;
        rest = Some (branch (leaf_from k.g k.f o.0) (chain go.0 k.g k.f));
        step = step_chain (step_as o.1 go.1 s.step);
        left = (
          subst (λ (w : Tree). Stands K V book n w (leaf_from k.g k.f o.0)) (sym hp)
              (record { goal = k.reads; frame = k.frame_is; count = o.2.count; within = o.2.within; store = o.2.store }),
          subst (λ (w : Tree). Stands K V book n w (chain go.0 k.g k.f)) (sym hq)
              (subst (λ (w : Tree). Stands K V book n w go.0) (sym hc) go.2, k.reads, k.frame_is),
        );
        answer = tt;
        mine = λ z w. elim w [
          | inl (inl j) ↦ s.mine z (inr (in_p z j))
          | inl (inr j) ↦ s.mine z (inl (in_q z j))
          | inr j ↦ absurd j
        ];
        gone = λ z no. s.gone z (λ o. elim o [
          | inl j ↦ no (inl (inr (subst (λ (w : Tree). In w z) (sym hq) (subst (λ (w : Tree). In w z) (sym hc) j))))
          | inr j ↦ no (inl (inl (subst (λ (w : Tree). In w z) (sym hp) j)))
        ]);
        others = s.others;
        apart = (subst Apart (sym hp) tt, subst Apart (sym hq) (subst Apart (sym hc) s.apart), λ z j l. s.parted z (in_p z j) (in_q z l));
        parted = λ z w j. w;
        spare = omega (arith, s.spare, ap leaves hp, ap leaves hq, ap leaves hc);
      })

module _ {K : Kind} {V : ℕ} {book : Book} {rules : Rules} {m : Meaning} where
  -- a step that the first tree cannot make cannot be made
  pub branch_stops : (a b : Box Tree Global) (T : MachineTree) (k : ℕ) (e : Stop) → Ready K V book rules m (Branch a b) T
      → ((A : MachineTree) → Ready K V book rules m a.value A → Stops V m k A e) → Stops V m k T e
  branch_stops a b T k Nodes r sub = let x = at_branch a b T r in subst (λ (S : MachineTree). Stops V m k S Nodes) x.is (sub x.A x.first)
  branch_stops a b T k Variables r sub = let x = at_branch a b T r in subst (λ (S : MachineTree). Stops V m k S Variables) x.is (sub x.A x.first)
  branch_stops a b T k (Stores e) r sub = let x = at_branch a b T r in subst (λ (S : MachineTree). Stops V m k S (Stores e)) x.is (sub x.A x.first)

  pub chain_stops : (a : Box Tree Global) (i : ℕ) (s : ShortRow ℕ 16) (T : MachineTree) (k : ℕ) (e : Stop) → Ready K V book rules m (Chain a i s) T
      → ((A : MachineTree) → Ready K V book rules m a.value A → Stops V m k A e) → Stops V m k T e
  chain_stops a i s T k Nodes r sub = let x = at_chain a i s T r in subst (λ (S : MachineTree). Stops V m k S Nodes) x.is (sub x.A x.first)
  chain_stops a i s T k Variables r sub = let x = at_chain a i s T r in subst (λ (S : MachineTree). Stops V m k S Variables) x.is (sub x.A x.first)
  chain_stops a i s T k (Stores e) r sub = let x = at_chain a i s T r in subst (λ (S : MachineTree). Stops V m k S (Stores e)) x.is (sub x.A x.first)

-- a chain's answer is taken up, whether or not something is left of its tree
pub chain_taken :
    {K : Kind} {V : ℕ} {book : Book} {rules : Rules} {m n : Meaning} (d : Bool) (a c : Box Tree Global) (i : ℕ) (e : ShortRow ℕ 16) (u w l : Tree) (T : MachineTree) (y : Found)
    → TakesUp d (Chain c i e) l w → l ≡ taken i e y → c.value ≡ u → Ready K V book rules m (Chain a i e) T
    → ((A : MachineTree) → Ready K V book rules m a.value A → Went K V book rules m n a.value u A (Some y) d)
    → Went K V book rules m n (Chain a i e) w T None false
chain_taken true a c i e u w l T y up h hc r sub = chain_last a i e u w T y (up ∙ h) r sub
chain_taken {K} {V} {book} {rules} {m} {n} false a c i e u w l T y up h hc r sub =
    subst (λ (w : Tree). Went K V book rules m n (Chain a i e) w T None false) (sym up.is)
    (chain_split a c up.first up.second i e u T y (up.its_leaf ∙ h) up.its_chain hc r sub)

-- a step of an equal tree, its answer and end known
pub sub_as :
    {K : Kind} {V : ℕ} {book : Book} {rules : Rules} {m n : Meaning} {t a u : Tree} {x y : Option Found} {d e : Bool} → t ≡ a → x ≡ y → d ≡ e
    → ((A : MachineTree) → Ready K V book rules m t A → Went K V book rules m n t u A x d)
    → (A : MachineTree) → Ready K V book rules m a A → Went K V book rules m n a u A y e
sub_as {K} {V} {book} {rules} {m} {n} {t} {a} {u} {x} {y} {d} {e} p q h f A r =
    subst (λ (e : Bool). Went K V book rules m n a u A y e) h
    (subst (λ (y : Option Found). Went K V book rules m n a u A y d) q
    (subst (λ (a : Tree). Went K V book rules m n a u A x d) p (f A (subst (λ (a : Tree). Ready K V book rules m a A) (sym p) r))))

pub whole :
    {K : Kind} {V : ℕ} {book : Book} {rules : Rules} {m n : Meaning} {t a u : Tree} {T : MachineTree} {x : Option Found} {d : Bool} → t ≡ a
    → (Ready K V book rules m a T → Went K V book rules m n a u T x d) → Ready K V book rules m t T → Went K V book rules m n t u T x d
whole {K} {V} {book} {rules} {m} {n} {t} {a} {u} {T} {x} {d} p f r =
    subst (λ (t : Tree). Went K V book rules m n t u T x d) (sym p) (f (subst (λ (t : Tree). Ready K V book rules m t T) p r))

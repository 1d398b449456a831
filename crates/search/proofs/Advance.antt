-- One step of a search, from one step of its tree. Assumes nothing.
use Rattle.std.proofs.Common.{◌≡◌, ℕ, ◌+◌, ◌<◌, ◌≤◌, Bool, true, false, cond, is_none, List, length, Some, None, vec_len, vec_capacity, Option, Vec, Box, sym, refl, ap, ◌∙◌, subst, inl, inr, add-one, arith}
use Rattle.std.proofs.lemmas.Bool.{both_ways, false≢true}
use Rattle.std.specs.declared.alloc.Global.{Global}
use Rattle.frontier.specs.declared.tree.Tree.{Tree}
use Rattle.frontier.specs.declared.tree.Tree.TheVariants.{Leaf, Branch', Chain'}
use Rattle.book.specs.declared.Book.{Book}
use Rattle.frontier.specs.declared.tree.Found.{Found}
use Rattle.search.specs.declared.Search.{Search}
use Rattle.frontier.specs.declared.stop.Stop.{Stop}
use Rattle.frontier.specs.declared.stop.Stop.TheVariants.{Nodes, Variables, Stores}
use Rattle.bank.specs.Kinds.{Kind}
use Rattle.book.specs.Language.{Goal, tell, conj, disj, fresh, call, Rule, Rules}
use Rattle.book.specs.Meaning.{book_nodes}
use Rattle.machine.specs.Machine.{Answer, State, Tree as MachineTree, leaf, branch, chain, Entry, Step, Run, next, noted}
use Rattle.machine.specs.Machine.{step_tell_lem, step_fail, step_conj, step_disj, step_fresh, step_call, step_branch, step_chain}
use Rattle.bank.specs.Views.{Meaning, View}
use Rattle.frontier.specs.Trees.{boxes, next_goal_lem, In, Stands, Left, Given, Holds, held, Among, standing, AllApart}
use Rattle.frontier.specs.Steps.{Ready, Went, Stops, Stayed, Next, adds, AtFresh, AtOr}
use Rattle.search.specs.Parts.{tree_of}
use Rattle.search.specs.Calls.{Mine, WaitsAs, StandsFor, Good, SteppedTo, OneMore, NoMore, Barred, below, nodes}
use Rattle.frontier.proofs.Scopes.{run_fine}
use Rattle.search.proofs.Along.{Called}

-- A state that is going on.
pub record Going {S : Type 0} (v : View S) (s : Search S) (rules : Rules) (T : State) : Type 0 where
  pub here : MachineTree
  pub is : T ≡ Some here
  pub ready : Ready v.kind v.variables s.book rules (v.meaning s.bank) s.tree here

-- A step may be made.
abbrev pub MayStep : {S : Type 0} → Search S → Type 0
MayStep s = (s.posed ≡ true) × (s.over ≡ false) × (s.waiting ≡ None)

pub may_step : {S : Type 0} {s t : Search S} → s ≡ t → t.posed ≡ true → t.over ≡ false → t.waiting ≡ None → MayStep s
may_step e p o w = subst MayStep (sym e) (p, o, w)

-- A step is made.
abbrev pub Onward : {S : Type 0} → View S → Search S → Search S → Type 0
Onward v s t = Called v s t (OneMore v s t)

module _ {S : Type 0} (v : View S) where
  pub going :
      (s : Search S) → Good v s → s.over ≡ false → (rules : Rules) (rule : Rule) (T : State) (es : List Entry) → StandsFor v s rules rule T es → Going v s rules T
  going s g o rules rule None es sf = absurd (subst (λ (d : Bool). Left v.kind v.variables s.book (v.meaning s.bank) d s.tree None) o sf.tree)
  going s g o rules rule (Some A) es sf = record {
    here = A;
    is = refl;
    ready = record {
      copies = sf.copies;
      stands = subst (λ (d : Bool). Left v.kind v.variables s.book (v.meaning s.bank) d s.tree (Some A)) o sf.tree;
      scoped = (run_fine v.kind rules sf.copies.well_formed sf.fits sf.run).scoped;
      apart = subst (λ (d : Bool). AllApart d s.tree) o g.apart;
    };
  }

  waits_noted : (m : Meaning) (x : Option Found) (o : Option Answer) (n : ℕ) (es : List Entry) → Given v.kind v.variables m x o → WaitsAs v.kind v.variables m x n (noted es n o)
  waits_noted m None None n es h = tt
  waits_noted m None (Some a) n es h = absurd h
  waits_noted m (Some y) None n es h = absurd h
  waits_noted m (Some y) (Some a) n es h = record { before = es; last = a; place = refl; stands = h }

  abbrev pub after : Search S → S → Tree → Vec (Box Tree Global) Global → Option Found → Bool → Search S
  after s b t p x d = record { bank = b; book = s.book; params = s.params; tree = t; pool = p; waiting = x; posed = s.posed; over = d; steps = s.steps + 1; stock = s.stock }

  one_more :
      (s : Search S) (b : S) (t : Tree) (p : Vec (Box Tree Global) Global) (x : Option Found) (d : Bool)
      → Good v s → MayStep s
      → ((rules : Rules) (A : MachineTree) → Ready v.kind v.variables s.book rules (v.meaning s.bank) s.tree A → Went v.kind v.variables s.book rules (v.meaning s.bank) (v.meaning b) s.tree t A x d)
      → vec_len p + boxes t ≡ vec_len s.pool + boxes s.tree → vec_capacity p ≡ vec_capacity s.pool → (d ≡ true → boxes t ≡ 0)
      → Onward v s (after s b t p x d)
  one_more s b t p x d g (posed, o, w) went len cap flat =
      let on : (rules : Rules) (rule : Rule) (T : State) (es : List Entry) → StandsFor v s rules rule T es → SteppedTo v (after s b t p x d) rules rule es =
      λ rules rule T es sf. to rules rule T es sf (going s g o rules rule T es sf) in
      let q = g.going posed in
      let k = going s g o q.0 q.1 q.2 q.3 q.4 in
      let a = went q.0 k.here k.ready in
      let n = on q.0 q.1 q.2 q.3 q.4 in
      let mine : (z : ℕ) → In s.tree z → Mine s z = λ z i. inl (subst (λ (d : Bool). Among d s.tree z) (sym o) i) in
      record {
        good = record {
          pool = omega (arith, len, g.pool);
          room = omega (arith, cap, g.room);
          spare = omega (arith, a.spare, g.spare, ap (λ (d : Bool). standing d s.tree) o, ap held w);
          few = g.few;
          blank = flat;
          apart = a.apart;
          parted = a.parted;
          going = λ _. (q.0, q.1, n.state, noted q.3 (s.steps + 1) n.given, n.stands);
          idle = λ e. absurd (false≢true (sym e ∙ posed));
        };
        does = record {
          is_posed = posed;
          steps = refl;
          book = refl;
          stock = refl;
          others = record {
            live = λ z i h. a.others.live z (λ y. i (mine z y)) h;
            solutions = λ z i h σ. a.others.solutions z (λ y. i (mine z y)) h σ;
            theirs = λ z i h y. elim (a.mine z y) [ inl j ↦ i (mine z j) | inr j ↦ both_ways ((v.meaning s.bank).live z) j h ];
          };
          stands = on;
        };
        none_left = record {
          gone = λ z no h. a.gone z no (elim h [
            | inl (inl i) ↦ inl (subst (λ (d : Bool). Among d s.tree z) o i)
            | inl (inr i) ↦ absurd (subst (λ (y : Option Found). Holds y z) w i)
            | inr i ↦ inr i
          ]);
        };
      }
    where
      to : (rules : Rules) (rule : Rule) (T : State) (es : List Entry) → StandsFor v s rules rule T es → Going v s rules T → SteppedTo v (after s b t p x d) rules rule es
      to rules rule T es sf k =
          let c = went rules k.here k.ready in
          let r = next (subst (λ (T : State). Run v.kind rules rule s.steps T es) k.is sf.run) c.step in
          record {
            given = c.given;
            state = c.rest;
            stands = record {
              copies = sf.copies;
              fits = sf.fits;
              params = sf.params;
              run = subst (λ (n : ℕ). Run v.kind rules rule n c.rest (noted es n c.given)) (sym (add-one s.steps)) r;
              tree = c.left;
              waits = waits_noted (v.meaning b) x c.given (s.steps + 1) es c.answer;
            };
            answer = c.answer;
          }

-- a tree that has ended goes
module _ (K : Kind) (V : ℕ) (book : Book) (rules : Rules) (m n : Meaning) (t u : Tree) (A : MachineTree) (x : Option Found) where
  went_left : (d : Bool) → Went K V book rules m n t u A x d → Went K V book rules m n t (tree_of (cond d None (Some u))) A x (is_none (cond d None (Some u)))
  went_left false h = h
  went_left true h = record {
    given = h.given;
    rest = h.rest;
    step = h.step;
    left = nothing h.rest h.left;
    answer = h.answer;
    mine = h.mine;
    gone = h.gone;
    others = h.others;
    apart = tt;
    parted = h.parted;
    spare = h.spare;
  }
    where
      nothing : (S : State) → Left K V book n true u S → Left K V book n true (tree_of None) S
      nothing None l = tt
      nothing (Some T) l = absurd l

boxes_left : (d : Bool) (u : Tree) → (d ≡ true → boxes u ≡ 0) → boxes (tree_of (cond d None (Some u))) ≡ boxes u
boxes_left true u h = sym (h refl)
boxes_left false u h = refl

flat_left : (d : Bool) (u : Tree) → is_none (cond d None (Some u)) ≡ true → boxes (tree_of (cond d None (Some u))) ≡ 0
flat_left true u h = refl
flat_left false u h = absurd (false≢true h)

pub stepped :
    {S : Type 0} (v : View S) (s : Search S) (b : S) (now t : Tree) (p : Vec (Box Tree Global) Global) (x : Option Found) (d : Bool) (w : Option Tree)
    → Good v s → MayStep s → now ≡ s.tree → w ≡ cond d None (Some t)
    → ((rules : Rules) (A : MachineTree) → Ready v.kind v.variables s.book rules (v.meaning s.bank) now A → Went v.kind v.variables s.book rules (v.meaning s.bank) (v.meaning b) now t A x d)
    → vec_len p + boxes t ≡ vec_len s.pool + boxes now → vec_capacity p ≡ vec_capacity s.pool → (d ≡ true → boxes t ≡ 0)
    → Onward v s (after v s b (tree_of w) p x (is_none w))
stepped v s b now t p x d w g may e is went len cap flat =
    let K = v.kind in
    let V = v.variables in
    let m = v.meaning s.bank in
    subst (λ (w : Option Tree). Onward v s (after v s b (tree_of w) p x (is_none w))) (sym is)
    (one_more v s b _ p x _ g may
    (λ rules A r. subst (λ (y : Tree). Went K V s.book rules m (v.meaning b) y (tree_of (cond d None (Some t))) A x (is_none (cond d None (Some t)))) e
    (went_left K V s.book rules m (v.meaning b) now t A x d (went rules A (subst (λ (y : Tree). Ready K V s.book rules m y A) (sym e) r))))
    (omega (arith, len, boxes_left d t flat, ap boxes e)) cap (flat_left d t))

-- a step that adds nodes gives no answer, and how many nodes it leaves
crowd :
    {K : Kind} {rules : Rules} {T : MachineTree} {o : Option Answer} {S : State} (k : ℕ)
    → Step K rules T o S → Next (λ g n. k < adds g) T → (o ≡ None) × (k + below T + 1 < nodes S)
crowd k (step_tell_lem σ h) l = absurd (omega arith)
crowd k (step_fail h) l = absurd (omega arith)
crowd k step_conj l = (refl, omega arith)
crowd k step_disj l = (refl, omega arith)
crowd k step_fresh l = absurd (omega arith)
crowd k step_call l = absurd (omega arith)
crowd k (step_branch {A' = None} st) l = let i = crowd k st l in absurd (omega (arith, i.1))
crowd k (step_branch {A' = Some A} st) l = let i = crowd k st l in (i.0, omega (arith, i.1))
crowd k (step_chain {o = None} {A' = None} st) l = let i = crowd k st l in absurd (omega (arith, i.1))
crowd k (step_chain {o = None} {A' = Some A} st) l = let i = crowd k st l in (refl, omega (arith, i.1))
crowd k (step_chain {o = Some a} {A' = None} st) l = let i = crowd k st l in let e = i.0 in let z : ◌≡◌ {A = ℕ} 0 1 = cc in absurd (omega (arith, z))
crowd k (step_chain {o = Some a} {A' = Some A} st) l = let i = crowd k st l in let e = i.0 in let z : ◌≡◌ {A = ℕ} 0 1 = cc in absurd (omega (arith, z))

-- the goal gives no answer at its step
abbrev Quiet : Goal → Type 0
Quiet (tell c k s) = ⊥
Quiet (conj g h) = Unit {0}
Quiet (disj g h) = Unit {0}
Quiet (fresh g) = Unit {0}
Quiet (call r s) = Unit {0}

-- a step at such a goal gives no answer, and how many nodes it leaves at most
calm :
    {K : Kind} {rules : Rules} {T : MachineTree} {o : Option Answer} {S : State} (k : ℕ)
    → Step K rules T o S → Next (λ g n. Quiet g × (adds g ≤ k)) T → (o ≡ None) × (nodes S ≤ k + below T + 1)
calm k (step_tell_lem σ h) l = absurd l.0
calm k (step_fail h) l = absurd l.0
calm k step_conj l = (refl, omega (arith, l.1))
calm k step_disj l = (refl, omega (arith, l.1))
calm k step_fresh l = (refl, omega arith)
calm k step_call l = (refl, omega arith)
calm k (step_branch {A' = None} st) l = ((calm k st l).0, omega arith)
calm k (step_branch {A' = Some A} st) l = let i = calm k st l in (i.0, omega (arith, i.1))
calm k (step_chain {o = None} {A' = None} st) l = (refl, omega arith)
calm k (step_chain {o = None} {A' = Some A} st) l = let i = calm k st l in (refl, omega (arith, i.1))
calm k (step_chain {o = Some a} {A' = None} st) l = let e = (calm k st l).0 in let z : ◌≡◌ {A = ℕ} 0 1 = cc in absurd (omega (arith, z))
calm k (step_chain {o = Some a} {A' = Some A} st) l = let e = (calm k st l).0 in let z : ◌≡◌ {A = ℕ} 0 1 = cc in absurd (omega (arith, z))

next_map : (P Q : Goal → ℕ → Type 0) → ((g : Goal) (n : ℕ) → P g n → Q g n) → (T : MachineTree) → Next P T → Next Q T
next_map P Q h (leaf g f n told ch) p = h g n p
next_map P Q h (branch A B) p = next_map P Q h A p
next_map P Q h (chain A g f) p = next_map P Q h A p

fresh_quiet : (V : ℕ) (g : Goal) (n : ℕ) → AtFresh V g n → Quiet g × (adds g ≤ 0)
fresh_quiet V (tell c k s) n h = absurd h
fresh_quiet V (conj g h) n x = absurd x
fresh_quiet V (disj g h) n x = absurd x
fresh_quiet V (fresh g) n x = (tt, omega arith)
fresh_quiet V (call r s) n x = absurd x

or_quiet : (k : ℕ) (g : Goal) (n : ℕ) → AtOr g × (adds g ≤ k) → Quiet g × (adds g ≤ k)
or_quiet k (tell c j s) n h = absurd h.0
or_quiet k (conj g h) n x = absurd x.0
or_quiet k (disj g h) n x = x
or_quiet k (fresh g) n x = absurd x.0
or_quiet k (call r s) n x = absurd x.0

-- an `or` is no `new`
or_not_new : (V : ℕ) (g : Goal) (n : ℕ) → AtOr g → AtFresh V g n → ⊥
or_not_new V (tell c k s) n h x = h
or_not_new V (conj g h) n y x = y
or_not_new V (disj g h) n y x = x
or_not_new V (fresh g) n y x = y
or_not_new V (call r s) n y x = y

next_clash : (V : ℕ) (T : MachineTree) → Next (λ g n. AtOr g) T → Next (λ g n. AtFresh V g n) T → ⊥
next_clash V (leaf g f n told ch) h x = or_not_new V g n h x
next_clash V (branch A B) h x = next_clash V A h x
next_clash V (chain A g f) h x = next_clash V A h x

-- a tree in memory has the machine's nodes
same_nodes : (K : Kind) (V : ℕ) (book : Book) (m : Meaning) (t : Tree) (T : MachineTree) → Stands K V book m t T → boxes t ≡ below T
same_nodes K V book m (Leaf l) (leaf g f n told ch) s = refl
same_nodes K V book m (Leaf l) (branch A B) s = absurd s
same_nodes K V book m (Leaf l) (chain A g f) s = absurd s
same_nodes K V book m (Branch' p a q b) (leaf g f n told ch) s = absurd s
same_nodes K V book m (Branch' p a q b) (branch A B) s = let i = same_nodes K V book m a A s.0 in let j = same_nodes K V book m b B s.1 in omega (arith, i, j)
same_nodes K V book m (Branch' p a q b) (chain A g f) s = absurd s
same_nodes K V book m (Chain' p a h e) (leaf g f n told ch) s = absurd s
same_nodes K V book m (Chain' p a h e) (branch A B) s = absurd s
same_nodes K V book m (Chain' p a h e) (chain A g f) s = let i = same_nodes K V book m a A s.0 in omega (arith, i)

module _ {S : Type 0} (v : View S) (s : Search S) (g : Good v s) (may : MayStep s) where
  barred_of : (rules : Rules) (A : MachineTree) (e : Stop) → Ready v.kind v.variables s.book rules (v.meaning s.bank) s.tree A
      → Stops v.variables (v.meaning s.bank) (vec_len s.pool) A e → Barred v s rules A e
  barred_of rules A Nodes r h = λ x T st.
      let c = crowd (vec_len s.pool) st h in
      let n = same_nodes v.kind v.variables s.book (v.meaning s.bank) s.tree A r.stands in
      omega (arith, c.1, n, g.pool)
  barred_of rules A Variables r h = record {
    roomy = λ x T st.
        let c = calm 0 st (next_map _ _ (fresh_quiet v.variables) A h) in
        let n = same_nodes v.kind v.variables s.book (v.meaning s.bank) s.tree A r.stands in
        omega (arith, c.1, n, g.pool);
    all_used = h;
  }
  barred_of rules A (Stores e) r h =
      let at_or = next_map (λ g n. AtOr g × (adds g ≤ vec_len s.pool)) (λ g n. AtOr g) (λ g n x. x.0) A h.0 in
      record {
        roomy = λ x T st.
            let c = calm (vec_len s.pool) st (next_map _ _ (or_quiet (vec_len s.pool)) A h.0) in
            let n = same_nodes v.kind v.variables s.book (v.meaning s.bank) s.tree A r.stands in
            omega (arith, c.1, n, g.pool);
        not_new = next_clash v.variables A at_or;
        at_or = at_or;
        all_held = omega (arith, g.spare, h.1, ap held may.2);
        cause = h.2;
      }

  pub no_more :
      (b : S) (now t : Tree) (p : Vec (Box Tree Global) Global) (e : Stop)
      → now ≡ s.tree → Stayed (v.meaning s.bank) (v.meaning b) now t
      → ((rules : Rules) (A : MachineTree) → Ready v.kind v.variables s.book rules (v.meaning s.bank) now A → Stops v.variables (v.meaning s.bank) (vec_len s.pool) A e)
      → vec_len p + boxes t ≡ vec_len s.pool + boxes now → vec_capacity p ≡ vec_capacity s.pool
      → NoMore v s (record { bank = b; book = s.book; params = s.params; tree = t; pool = p; waiting = s.waiting; posed = s.posed; over = false; steps = s.steps; stock = s.stock }) e
  no_more b now t p e is st stops len cap = record {
    same = record {
      bank = st.bank;
      book = refl;
      params = refl;
      tree = st.tree ∙ is;
      waiting = refl;
      posed = refl;
      over = sym may.1;
      steps = refl;
      stock = refl;
      spare_boxes = omega (arith, len, ap boxes st.tree);
      room = cap;
    };
    barred = λ rules rule T es sf.
        let k = going v s g may.1 rules rule T es sf in
        (k.here, k.is, barred_of rules k.here e k.ready (stops rules k.here (subst (λ (y : Tree). Ready v.kind v.variables s.book rules (v.meaning s.bank) y k.here) (sym is) k.ready)));
  }

  pub step_ready : (rules : Rules) × ((A : MachineTree) × Ready v.kind v.variables s.book rules (v.meaning s.bank) s.tree A)
  step_ready = let q = g.going may.0 in let k = going v s g may.1 q.0 q.1 q.2 q.3 q.4 in (q.0, (k.here, k.ready))

-- the goal of the next step is one of the book's
next_inside : (K : Kind) (V : ℕ) (book : Book) (m : Meaning) (t : Tree) (T : MachineTree) → Stands K V book m t T → next_goal_lem t < length (book_nodes book)
next_inside K V book m (Leaf l) (leaf g f n told ch) s = s.goal.inside
next_inside K V book m (Leaf l) (branch A B) s = absurd s
next_inside K V book m (Leaf l) (chain A g f) s = absurd s
next_inside K V book m (Branch' p a q b) (leaf g f n told ch) s = absurd s
next_inside K V book m (Branch' p a q b) (branch A B) s = next_inside K V book m a A s.0
next_inside K V book m (Branch' p a q b) (chain A g f) s = absurd s
next_inside K V book m (Chain' p a h e) (leaf g f n told ch) s = absurd s
next_inside K V book m (Chain' p a h e) (branch A B) s = absurd s
next_inside K V book m (Chain' p a h e) (chain A g f) s = next_inside K V book m a A s.0

pub goal_inside : {S : Type 0} (v : View S) (s : Search S) → Good v s → s.posed ≡ true → s.over ≡ false → next_goal_lem s.tree < length (book_nodes s.book)
goal_inside v s g posed o =
    let q = g.going posed in
    let k = going v s g o q.0 q.1 q.2 q.3 q.4 in
    next_inside v.kind v.variables s.book (v.meaning s.bank) s.tree k.here k.ready.stands

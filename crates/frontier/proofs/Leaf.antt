-- Each way through a leaf's step, as a step of the machine. Assumes nothing.
use Rattle.std.proofs.Common.{◌≡◌, ℕ, suc, ◌+◌, ◌<◌, ◌≤◌, Bool, true, false, ◌&&◌, List, [], ◌∷◌, ◌++◌, length, get_or, ℤ, pos, negsuc, nat_abs, Some, None, Ok, Err, Option, Box, sym, refl, ap, ◌∙◌, subst, inl, inr, eq-or-lt_of_le, arith, lt-ltb, le-leb}
use lib.ListN.{length-map}
use Rattle.std.proofs.lemmas.Bool.{both_ways, and_from}
use Rattle.std.specs.declared.alloc.Global.{Global}
use Rattle.bank.specs.declared.Refusal.TheVariants.{NotLive, NoSpare, BadConstraint, BadVariable, Contradiction, TextTooLong}
use Rattle.bank.specs.Calls.{Unchanged, Others, Added, Accepted, Released}
use Rattle.bank.specs.Kinds.{Value, Kind, Condition, Assignment, holds_at, solves, Solves, takes, all_below}
use Rattle.bank.specs.Views.{Meaning}
use Rattle.book.specs.declared.Book.{Book}
use Rattle.book.specs.declared.Form.{Form}
use Rattle.book.specs.declared.Form.TheVariants.{Tell, And, Or, New, Call}
use Rattle.book.specs.declared.Rule.{Rule as RuleOf}
use Rattle.book.specs.Language.{Goal, tell, fresh, call, Rule, Rules, Fits, rule_at}
use Rattle.book.specs.Meaning.{book_nodes, book_rules, meaning}
use Rattle.book.specs.Table.{blank, rule_of, InScope, Rooted}
use Rattle.book.specs.Table.{Stands as FormStands}
use Rattle.line.specs.declared.Call.{Call as CallOf}
use Rattle.line.specs.declared.Tell.{Tell as TellOf}
use Rattle.numeral.specs.Reads.{size}
use Rattle.machine.specs.Machine.{Side, left, right, Frame, Tree as MachineTree, leaf, branch, chain, Step, vars_of_lem, told_at}
use Rattle.machine.specs.Machine.{step_tell_lem, step_fail, step_conj, step_disj, step_fresh, step_call}
use Rattle.machine.proofs.Frames.{Below, below_later, frame_push, slots_below}
use Rattle.machine.proofs.Solutions.{solves_told}
use Rattle.machine.proofs.Shapes.{s_tell}
use Rattle.machine.proofs.Values.{Local, leads_local}
use Rattle.machine.proofs.Waiting.{from}
use Rattle.frontier.specs.declared.stop.Stop.{Stop}
use Rattle.frontier.specs.declared.stop.Stop.TheVariants.{Nodes, Variables, Stores}
use Rattle.frontier.specs.declared.tree.Found.{Found}
use Rattle.frontier.specs.declared.tree.Task.{Task}
use Rattle.frontier.specs.declared.tree.Tree.{Tree, Branch, Chain}
use Rattle.frontier.specs.declared.tree.Tree.TheVariants.{Leaf}
use Rattle.frontier.specs.Books.{Reads, known}
use Rattle.row.specs.Shorts.{items}
use Rattle.frontier.specs.declared.tree.Stepped.{Stepped}
use Rattle.frontier.specs.Steps.{Ready, Went, Next, AtFresh, AtOr, adds, Stops, Boxed, tells, Telling, Told, TellDoes, Seconds}
use Rattle.frontier.specs.Trees.{boxes, In, Apart, leaves, Kept, Tasked, Stands, Elsewhere}
use Rattle.frontier.proofs.Fill.{narrow, widen}
use Rattle.frontier.proofs.Places.{at_tell, at_and, at_or, at_new, at_call}

-- A leaf's state is a leaf.
pub record AtLeaf (K : Kind) (V : ℕ) (book : Book) (rules : Rules) (m : Meaning) (l : Task) (T : MachineTree) : Type 0 where
  pub g : Goal
  pub f : Frame
  pub n : ℕ
  pub told : List Condition
  pub ch : List Side
  pub is : leaf g f n told ch ≡ T
  pub tasked : Tasked K V book m l g f n told
  pub fits : Fits rules (length f) g
  pub below : Below n f
  pub local : Local K (from n told ch)

pub at_leaf : {K : Kind} {V : ℕ} {book : Book} {rules : Rules} {m : Meaning} (l : Task) (T : MachineTree) → Ready K V book rules m (Leaf l) T → AtLeaf K V book rules m l T
at_leaf l (leaf g f n told ch) r =
    record { g = g; f = f; n = n; told = told; ch = ch; is = refl; tasked = r.stands; fits = r.scoped.0; below = r.scoped.1; local = r.scoped.2 }
at_leaf l (branch A B) r = absurd r.stands
at_leaf l (chain A g f) r = absurd r.stands

-- the other stores of a leaf's step
others_of : {m n : Meaning} (l : Task) → Others m n l.store → Elsewhere m n (In (Leaf l))
others_of l o = record {
  live = λ x no h. o.live x (λ e. no (sym e)) ∙ h;
  solutions = λ x no h σ. o.solutions x (λ e. no (sym e)) h σ;
}

same_else : {m : Meaning} (P : ℕ → Type 0) → Elsewhere m m P
same_else P = record { live = λ x no h. h; solutions = λ x no h σ. refl }

-- the condition as the machine has it
told_same : (t : TellOf) (e f : Frame) (c : Condition) → e ≡ f → c ≡ told_at t.code t.k (items t.slots) e → c ≡ told_at t.code t.k (items t.slots) f
told_same t e f c h k = k ∙ ap (λ (r : Frame). told_at t.code t.k (items t.slots) r) h

lt_of_le : (n V : ℕ) → n ≤ V → (n ≡ V → ⊥) → suc n ≤ V
lt_of_le n V l h = elim (eq-or-lt_of_le l) [ inl e ↦ absurd (h e) | inr k ↦ k ]

-- a leaf with another goal and store
abbrev pub retold : Task → ℕ → ℕ → Tree
retold l g s = Leaf (record { goal = g; frame = l.frame; n = l.n; store = s })

kept_task :
    {K : Kind} {V : ℕ} {book : Book} {m n : Meaning} (l : Task) (a s : ℕ) {g h : Goal} {f : Frame} {k : ℕ} {told : List Condition}
    → Tasked K V book m l g f k told → Reads book (length f) a h → Kept K V n s told
    → Tasked K V book n (record { goal = a; frame = l.frame; n = l.n; store = s }) h f k told
kept_task l a s t r kept = record { goal = r; frame = t.frame; count = t.count; within = t.within; store = kept }

module _ {K : Kind} {V : ℕ} {book : Book} {rules : Rules} {m : Meaning} where
  tell_went :
      {n : Meaning} (u : Tree) (l : Task) (T : MachineTree) (o : TellOf) (d : Condition) → FormStands (book_rules book) (book_nodes book) l.goal (Tell o)
      → d ≡ told_at o.code o.k (items o.slots) (items l.frame) → Accepted K V m n l.store d
      → Ready K V book rules m (Leaf l) T → Went K V book rules m n (Leaf l) u T (Some (record { n = l.n; store = l.store })) true
  tell_went {n} u l T o d it says acc r =
      let a = at_leaf l T r in
      let t = a.tasked in
      let i = at_tell t.goal o it in
      let c = told_at o.code o.k (items o.slots) a.f in
      let acc' = subst (Accepted K V m n l.store) (told_same o _ a.f d t.frame says) acc in
      let sol = acc'.some in
      let more : (σ : Assignment) → n.solutions l.store σ ≡ solves K V (a.told ++ (c ∷ [])) σ =
      λ σ. acc'.has σ ∙ ap (λ (x : Bool). x && holds_at K c σ) (t.store.solutions σ) ∙ sym (solves_told K σ V a.told c) in
      let has = narrow K a.n V (a.told ++ (c ∷ [])) sol.0 t.within (sym (more sol.0) ∙ sol.1) in
      subst (λ (S : MachineTree). Went K V book rules m n (Leaf l) u S (Some (record { n = l.n; store = l.store })) true) a.is
      (subst (λ (g : Goal). Went K V book rules m n (Leaf l) u (leaf g a.f a.n a.told a.ch) (Some (record { n = l.n; store = l.store })) true) i.is
      (record {
        given = Some (record { n = a.n; told = a.told ++ (c ∷ []); choices = a.ch });
        rest = None;
        step = step_tell_lem sol.0 has;
        left = tt;
        answer = record { count = t.count; within = t.within; store = record { live = acc.is; solutions = more } };
        mine = λ x h. elim h [ inl y ↦ absurd y | inr y ↦ inl y ];
        gone = λ x no h. elim h [ inl y ↦ absurd (no (inr y)) | inr y ↦ acc.others.live x (λ e. no (inr (sym e))) ∙ y ];
        others = others_of l acc.others;
        apart = tt;
        parted = λ x y z. z;
        spare = omega (arith, acc.spare);
      }))

  tell_failed :
      {n : Meaning} (u : Tree) (l : Task) (T : MachineTree) (o : TellOf) (d : Condition) → FormStands (book_rules book) (book_nodes book) l.goal (Tell o)
      → d ≡ told_at o.code o.k (items o.slots) (items l.frame) → ((σ : Assignment) → (m.solutions l.store σ && holds_at K d σ) ≡ false)
      → Released m n l.store → (v : Value) × (K.admits v ≡ true)
      → Ready K V book rules m (Leaf l) T → Went K V book rules m n (Leaf l) u T None true
  tell_failed {n} u l T o d it says never rel val r =
      let a = at_leaf l T r in
      let t = a.tasked in
      let i = at_tell t.goal o it in
      let code = o.code in
      let k = o.k in
      let slots = items o.slots in
      let c = told_at code k slots a.f in
      let fits : Fits rules (length a.f) (tell code k slots) = subst (λ (g : Goal). Fits rules (length a.f) g) (sym i.is) a.fits in
      let loc : Local K (from a.n (a.told ++ (c ∷ [])) a.ch) =
      leads_local K rules r.copies.well_formed (s_tell {code = code} {k = k} {slots = slots}) a.f (from a.n a.told a.ch) (length a.f) fits refl a.below a.local in
      let never' = subst (λ (c : Condition). (σ : Assignment) → (m.solutions l.store σ && holds_at K c σ) ≡ false) (told_same o _ a.f d t.frame says) never in
      let no : (σ : Assignment) → Solves K a.n (a.told ++ (c ∷ [])) σ → ⊥ = λ σ h.
      let w = widen K val.0 val.1 V (from a.n (a.told ++ (c ∷ [])) a.ch) σ loc h in
      let τ = w.0 in
      both_ways (m.solutions l.store τ && holds_at K c τ) (never' τ)
      (ap (λ (x : Bool). x && holds_at K c τ) (t.store.solutions τ) ∙ sym (solves_told K τ V a.told c) ∙ w.2) in
      subst (λ (S : MachineTree). Went K V book rules m n (Leaf l) u S None true) a.is
      (subst (λ (g : Goal). Went K V book rules m n (Leaf l) u (leaf g a.f a.n a.told a.ch) None true) i.is
      (record {
        given = None;
        rest = None;
        step = step_fail no;
        left = tt;
        answer = tt;
        mine = λ x h. elim h [ inl y ↦ absurd y | inr y ↦ absurd y ];
        gone = λ x no h. elim h [
          | inl y ↦ sym (ap n.live y) ∙ rel.is
          | inr y ↦ rel.others.live x (λ e. both_ways (m.live x) y (ap m.live e ∙ rel.was)) ∙ y
        ];
        others = others_of l rel.others;
        apart = tt;
        parted = λ x y z. z;
        spare = omega (arith, rel.spare);
      }))

  told_either :
      {n : Meaning} (u : Tree) (l : Task) (T : MachineTree) (o : TellOf) (x : Option Found) (d : Bool) → d ≡ true → FormStands (book_rules book) (book_nodes book) l.goal (Tell o)
      → Told K V m n l (tells l o) x → (v : Value) × (K.admits v ≡ true)
      → Ready K V book rules m (Leaf l) T → Went K V book rules m n (Leaf l) u T x d
  told_either {n} u l T o (Some x) d e it h val r =
      subst (λ (d : Bool). Went K V book rules m n (Leaf l) u T (Some x) d) (sym e)
      (subst (λ (y : Found). Went K V book rules m n (Leaf l) u T (Some y) true) (sym h.is) (tell_went u l T o _ it refl h.accepted r))
  told_either {n} u l T o None d e it h val r =
      subst (λ (d : Bool). Went K V book rules m n (Leaf l) u T None d) (sym e) (tell_failed u l T o _ it refl h.never h.released val r)

  pub told_went :
      {n : Meaning} (u : Tree) (l : Task) (T : MachineTree) (o : TellOf) (s : Stepped) → FormStands (book_rules book) (book_nodes book) l.goal (Tell o)
      → TellDoes K V m n l o s → (v : Value) × (K.admits v ≡ true)
      → Ready K V book rules m (Leaf l) T → Went K V book rules m n (Leaf l) u T s.answer s.ended
  told_went u l T o s it h val r = told_either u l T o s.answer s.ended h.ended it h.told val r

  pub conj_went :
      (p : Box Tree Global) (l : Task) (T : MachineTree) (a b : ℕ) → FormStands (book_rules book) (book_nodes book) l.goal (And a b) → p.value ≡ retold l a l.store
      → Ready K V book rules m (Leaf l) T → Went K V book rules m m (Leaf l) (Chain p b l.frame) T None false
  conj_went p l T x y it e r =
      let a = at_leaf l T r in
      let t = a.tasked in
      let d = at_and t.goal x y it in
      subst (λ (S : MachineTree). Went K V book rules m m (Leaf l) (Chain p y l.frame) S None false) a.is
      (subst (λ (g : Goal). Went K V book rules m m (Leaf l) (Chain p y l.frame) (leaf g a.f a.n a.told a.ch) None false) d.is
      (record {
        given = None;
        rest = Some (chain (leaf d.first a.f a.n a.told a.ch) d.second a.f);
        step = step_conj;
        left = (
          subst (λ (w : Tree). Stands K V book m w (leaf d.first a.f a.n a.told a.ch)) (sym e) (kept_task l x l.store t d.reads_first t.store),
          d.reads_second,
          t.frame,
        );
        answer = tt;
        mine = λ x h. elim h [ inl y ↦ inl (subst (λ (w : Tree). In w x) e y) | inr y ↦ absurd y ];
        gone = λ x no h. elim h [ inl y ↦ absurd (no (inl (subst (λ (w : Tree). In w x) (sym e) y))) | inr y ↦ y ];
        others = same_else (In (Leaf l));
        apart = subst Apart (sym e) tt;
        parted = λ x y z. y;
        spare = omega (arith, ap leaves e);
      }))

  pub disj_went :
      {n : Meaning} (p q : Box Tree Global) (l : Task) (T : MachineTree) (a b s : ℕ) → FormStands (book_rules book) (book_nodes book) l.goal (Or a b) → p.value ≡ retold l a l.store → q.value ≡ retold l b s
      → Added m n s (m.solutions l.store)
      → Ready K V book rules m (Leaf l) T → Went K V book rules m n (Leaf l) (Branch p q) T None false
  disj_went {n} p q l T x y s it e f add r =
      let a = at_leaf l T r in
      let t = a.tasked in
      let d = at_or t.goal x y it in
      let other : (z : ℕ) → m.live z ≡ true → z ≡ s → ⊥ = λ z h i. both_ways (m.live s) add.was (sym (ap m.live i) ∙ h) in
      let mine_kept : Kept K V n l.store a.told = record {
        live = add.others.live l.store (other l.store t.store.live) ∙ t.store.live;
        solutions = λ σ. add.others.solutions l.store (other l.store t.store.live) t.store.live σ ∙ t.store.solutions σ;
      } in
      let new_kept : Kept K V n s a.told = record { live = add.is; solutions = λ σ. add.has σ ∙ t.store.solutions σ } in
      subst (λ (S : MachineTree). Went K V book rules m n (Leaf l) (Branch p q) S None false) a.is
      (subst (λ (g : Goal). Went K V book rules m n (Leaf l) (Branch p q) (leaf g a.f a.n a.told a.ch) None false) d.is
      (record {
        given = None;
        rest = Some (branch (leaf d.first a.f a.n a.told (a.ch ++ (left ∷ []))) (leaf d.second a.f a.n a.told (a.ch ++ (right ∷ []))));
        step = step_disj;
        left = (
          subst (λ (w : Tree). Stands K V book n w (leaf d.first a.f a.n a.told (a.ch ++ (left ∷ [])))) (sym e) (kept_task l x l.store t d.reads_first mine_kept),
          subst (λ (w : Tree). Stands K V book n w (leaf d.second a.f a.n a.told (a.ch ++ (right ∷ [])))) (sym f) (kept_task l y s t d.reads_second new_kept),
        );
        answer = tt;
        mine = λ x h. elim h [
          | inl (inl y) ↦ inl (subst (λ (w : Tree). In w x) e y)
          | inl (inr y) ↦ inr (let i : s ≡ x = subst (λ (w : Tree). In w x) f y in sym (ap m.live i) ∙ add.was)
          | inr y ↦ absurd y
        ];
        gone = λ x no h. elim h [
          | inl y ↦ absurd (no (inl (inl (subst (λ (w : Tree). In w x) (sym e) y))))
          | inr y ↦ add.others.live x (λ i. no (inl (inr (subst (λ (w : Tree). In w x) (sym f) (sym i))))) ∙ y
        ];
        others = record {
          live = λ x no h. add.others.live x (other x h) ∙ h;
          solutions = λ x no h σ. add.others.solutions x (other x h) h σ;
        };
        apart = (
          subst Apart (sym e) tt,
          subst Apart (sym f) tt,
          λ x i j.
              other l.store t.store.live (subst (λ (w : Tree). In w x) e i ∙ sym (subst (λ (w : Tree). In w x) f j)),
        );
        parted = λ x y z. y;
        spare = omega (arith, ap leaves e, ap leaves f, add.spare);
      }))

  -- a leaf goes on as another in the same store
  leaf_went :
      (u l : Task) (T : MachineTree) (a : AtLeaf K V book rules m l T) (h g : Goal) (f : Frame) (k : ℕ) → h ≡ a.g
      → Step K rules (leaf h a.f a.n a.told a.ch) None (Some (leaf g f k a.told a.ch))
      → Reads book (length f) u.goal g → items u.frame ≡ f → u.n ≡ k → k ≤ V → u.store ≡ l.store
      → Went K V book rules m m (Leaf l) (Leaf u) T None false
  leaf_went u l T a h g f k is step reads fr en within es =
      subst (λ (S : MachineTree). Went K V book rules m m (Leaf l) (Leaf u) S None false) a.is
      (subst (λ (g : Goal). Went K V book rules m m (Leaf l) (Leaf u) (leaf g a.f a.n a.told a.ch) None false) is
      (record {
        given = None;
        rest = Some (leaf g f k a.told a.ch);
        step = step;
        left = record {
          goal = reads;
          frame = fr;
          count = en;
          within = within;
          store = subst (λ (s : ℕ). Kept K V m s a.told) (sym es) a.tasked.store;
        };
        answer = tt;
        mine = λ x h. elim h [ inl y ↦ inl (sym es ∙ y) | inr y ↦ absurd y ];
        gone = λ x no h. elim h [ inl y ↦ absurd (no (inl (es ∙ y))) | inr y ↦ y ];
        others = same_else (In (Leaf l));
        apart = tt;
        parted = λ x y z. y;
        spare = omega arith;
      }))

  pub fresh_went :
      (u l : Task) (T : MachineTree) (a : ℕ) → FormStands (book_rules book) (book_nodes book) l.goal (New a) → (l.n ≡ V → ⊥)
      → u.goal ≡ a → items u.frame ≡ items l.frame ++ (l.n ∷ []) → u.n ≡ l.n + 1 → u.store ≡ l.store
      → Ready K V book rules m (Leaf l) T → Went K V book rules m m (Leaf l) (Leaf u) T None false
  fresh_went u l T x it small eg fr en es r =
      let a = at_leaf l T r in
      let t = a.tasked in
      let d = at_new t.goal x it in
      let f' = a.f ++ (a.n ∷ []) in
      let reads : Reads book (length f') u.goal d.inner =
      subst (λ (i : ℕ). Reads book (length f') i d.inner) (sym eg) (subst (λ (p : ℕ). Reads book p x d.inner) (sym (frame_push a.f a.n refl)) d.reads) in
      let frame' : items u.frame ≡ f' = fr ∙ ap (λ (r : Frame). r ++ (l.n ∷ [])) t.frame ∙ ap (λ (k : ℕ). a.f ++ (k ∷ [])) t.count in
      leaf_went u l T a (fresh d.inner) d.inner f' (suc a.n) d.is step_fresh reads frame' (omega (arith, t.count)) (lt_of_le a.n V t.within (λ e. small (t.count ∙ e))) es

  pub call_went :
      (u l : Task) (T : MachineTree) (c : CallOf) (q : RuleOf) → FormStands (book_rules book) (book_nodes book) l.goal (Call c)
      → Rooted (book_nodes book) q → rule_at (meaning book) c.rule ≡ rule_of (book_nodes book) q
      → u.goal ≡ q.goal → items u.frame ≡ vars_of_lem (items l.frame) (items c.slots) → u.n ≡ l.n → u.store ≡ l.store
      → Ready K V book rules m (Leaf l) T → Went K V book rules m m (Leaf l) (Leaf u) T None false
  call_went u l T c q it root means eg fr en es r =
      let a = at_leaf l T r in
      let t = a.tasked in
      let d = at_call t.goal c it in
      let slots = items c.slots in
      let fits : Fits rules (length a.f) (call c.rule slots) = subst (λ (g : Goal). Fits rules (length a.f) g) (sym d.is) a.fits in
      let f' = vars_of_lem a.f slots in
      let frame' : items u.frame ≡ f' = fr ∙ ap (λ (r : Frame). vars_of_lem r slots) t.frame in
      let same : rule_at rules c.rule ≡ rule_of (book_nodes book) q = sym (ap (λ (rs : Rules). rule_at rs c.rule) r.copies.means) ∙ means in
      let len : length f' ≡ q.params = length-map slots (λ s. get_or a.f s 0) ∙ fits.1 ∙ ap (λ (q : Rule). q.params) same in
      let reads : Reads book (length f') u.goal (rule_at rules c.rule).goal =
      subst (λ (i : ℕ). Reads book (length f') i (rule_at rules c.rule).goal) (sym eg)
      (record { inside = root.1; scoped = root.2 ∙ sym len; is = sym (ap (λ (q : Rule). q.goal) same) }) in
      leaf_went u l T a (call c.rule slots) (rule_at rules c.rule).goal f' a.n d.is step_call reads frame' (en ∙ t.count) t.within es

  -- what holds of the leaf's goal holds where the next step takes place
  at_goal : (P : Goal → ℕ → Type 0) (l : Task) (T : MachineTree) (a : AtLeaf K V book rules m l T) (g : Goal) → g ≡ a.g → P g a.n → Next P T
  at_goal P l T a g is h = subst (λ (S : MachineTree). Next P S) a.is (subst (λ (g : Goal). P g a.n) is h)

  -- why no step was made
  pub or_short : {k : ℕ} (l : Task) (T : MachineTree) (a b : ℕ) → FormStands (book_rules book) (book_nodes book) l.goal (Or a b) → k < 2 → Ready K V book rules m (Leaf l) T → Next (λ g n. k < adds g) T
  or_short {k} l T x y it h r = let a = at_leaf l T r in at_goal (λ g n. k < adds g) l T a _ (at_or a.tasked.goal x y it).is h

  pub and_short : {k : ℕ} (l : Task) (T : MachineTree) (a b : ℕ) → FormStands (book_rules book) (book_nodes book) l.goal (And a b) → k < 1 → Ready K V book rules m (Leaf l) T → Next (λ g n. k < adds g) T
  and_short {k} l T x y it h r = let a = at_leaf l T r in at_goal (λ g n. k < adds g) l T a _ (at_and a.tasked.goal x y it).is h

  pub new_full : (l : Task) (T : MachineTree) (a : ℕ) → FormStands (book_rules book) (book_nodes book) l.goal (New a) → l.n ≡ V → Ready K V book rules m (Leaf l) T → Next (λ g n. AtFresh V g n) T
  new_full l T x it h r = let a = at_leaf l T r in at_goal (λ g n. AtFresh V g n) l T a _ (at_new a.tasked.goal x it).is (sym a.tasked.count ∙ h)

  pub at_disj : {k : ℕ} (l : Task) (T : MachineTree) (a b : ℕ) → FormStands (book_rules book) (book_nodes book) l.goal (Or a b) → 2 ≤ k → Ready K V book rules m (Leaf l) T → Next (λ g n. AtOr g × (adds g ≤ k)) T
  at_disj {k} l T x y it h r = let a = at_leaf l T r in at_goal (λ g n. AtOr g × (adds g ≤ k)) l T a _ (at_or a.tasked.goal x y it).is (tt, h)

-- a store for the other side of a branch is refused only where none is spare
pub record NoSecond (m n : Meaning) (e : Stop) : Type 0 where
  pub same : Unchanged m n
  pub stops : (V k : ℕ) (T : MachineTree) → Next (λ g n. AtOr g × (adds g ≤ k)) T → Stops V m k T e

pub no_second : {m n : Meaning} (s : ℕ) (e : Stop) → m.live s ≡ true → Seconds m n s (Err e) → NoSecond m n e
no_second s (Stores NoSpare) h f = record { same = f.1.same; stops = λ V k T o. (o, f.1.none, refl) }
no_second {m} s (Stores NotLive) h f = absurd (both_ways (m.live s) f.not h)
no_second s (Stores BadConstraint) h f = absurd f
no_second s (Stores BadVariable) h f = absurd f
no_second s (Stores Contradiction) h f = absurd f
no_second s (Stores TextTooLong) h f = absurd f
no_second s Nodes h f = absurd f
no_second s Variables h f = absurd f

-- the same of an equal tree
pub ready_at :
    {K : Kind} {V : ℕ} {book : Book} {rules : Rules} {m : Meaning} {T : MachineTree} {t : Tree} (l : Task) → t ≡ Leaf l
    → Ready K V book rules m t T → Ready K V book rules m (Leaf l) T
ready_at {K} {V} {book} {rules} {m} {T} l e r = subst (λ (t : Tree). Ready K V book rules m t T) e r

pub went_at :
    {K : Kind} {V : ℕ} {book : Book} {rules : Rules} {m n : Meaning} {T : MachineTree} {t u : Tree} {x : Option Found} {d : Bool} (l : Task) → t ≡ Leaf l
    → (Ready K V book rules m (Leaf l) T → Went K V book rules m n (Leaf l) u T x d) → Ready K V book rules m t T → Went K V book rules m n t u T x d
went_at {K} {V} {book} {rules} {m} {n} {T} {u = u} {x} {d} l e f r =
    subst (λ (t : Tree). Went K V book rules m n t u T x d) (sym e) (f (ready_at l e r))

pub went_as :
    {K : Kind} {V : ℕ} {book : Book} {rules : Rules} {m n : Meaning} {T : MachineTree} {t u w : Tree} {x : Option Found} {d : Bool} → w ≡ u
    → Went K V book rules m n t u T x d → Went K V book rules m n t w T x d
went_as {K} {V} {book} {rules} {m} {n} {T} {t} {x = x} {d} e h = subst (λ (w : Tree). Went K V book rules m n t w T x d) (sym e) h

-- telling leaves the leaf in its place
pub told_boxed : {K : Kind} {V : ℕ} {m n : Meaning} {k : ℕ} (l : Task) (u : Tree) (o : TellOf) (s : Stepped) → u ≡ Leaf l → TellDoes K V m n l o s → Boxed k k u (Ok s)
told_boxed l u o s e h = (λ x. ap boxes e, λ x y. absurd (both_ways s.ended y h.ended))

pub unchanged : {m : Meaning} → Unchanged m m
unchanged = record { live = λ t. refl; solutions = λ t h σ. refl; spare = refl }

-- a number's size
same_size : (k : ℤ) → nat_abs k ≡ size k
same_size (pos n) = refl
same_size (negsuc n) = refl

all_in_range : (n : ℕ) (xs : List ℕ) → Below n xs → all_below n xs ≡ true
all_in_range n [] b = refl
all_in_range n (x ∷ xs) b = and_from _ _ (lt-ltb x n b.0) (all_in_range n xs b.1)

-- what the calls of a leaf's step need
module _ {K : Kind} {V : ℕ} {book : Book} {rules : Rules} {m : Meaning} where
  pub goal_inside : (l : Task) (T : MachineTree) → Ready K V book rules m (Leaf l) T → l.goal < length (book_nodes book)
  goal_inside l T r = (at_leaf l T r).tasked.goal.inside

  pub store_live : (l : Task) (T : MachineTree) → Ready K V book rules m (Leaf l) T → m.live l.store ≡ true
  store_live l T r = (at_leaf l T r).tasked.store.live

  pub few_variables : (l : Task) (T : MachineTree) → Ready K V book rules m (Leaf l) T → l.n ≤ V
  few_variables l T r = let t = (at_leaf l T r).tasked in omega (arith, t.count, t.within)

  frame_count : (l : Task) (T : MachineTree) (r : Ready K V book rules m (Leaf l) T) → length (at_leaf l T r).f ≡ length (items l.frame)
  frame_count l T r = let t = (at_leaf l T r).tasked in sym (ap (λ (f : Frame). length f) t.frame)

  pub frame_room : (l : Task) (T : MachineTree) (a : ℕ) → FormStands (book_rules book) (book_nodes book) l.goal (New a) → Ready K V book rules m (Leaf l) T → length (items l.frame) < 16
  frame_room l T x it r =
      let d = at_new (at_leaf l T r).tasked.goal x it in
      omega (arith, d.room, frame_count l T r)

  pub telling :
      (l : Task) (T : MachineTree) (t : TellOf) → FormStands (book_rules book) (book_nodes book) l.goal (Tell t) → Tell t ≡ (get_or (book_nodes book) l.goal blank).form
      → Ready K V book rules m (Leaf l) T → Telling K V l t
  telling l T t it here r =
      let a = at_leaf l T r in
      let k = a.tasked in
      let d = at_tell k.goal t it in
      let slots = items t.slots in
      let fits : Fits rules (length a.f) (tell t.code t.k slots) = subst (λ (g : Goal). Fits rules (length a.f) g) (sym d.is) a.fits in
      let knows : takes (K.arity t.code) (length (items t.slots)) ≡ true = ap (λ (f : Form). known K f) here ∙ r.copies.known l.goal k.goal.inside in
      let len : length (vars_of_lem (items l.frame) slots) ≡ length (items t.slots) = length-map slots (λ s. get_or (items l.frame) s 0) in
      record {
        scope = record { few = d.scope.few; below = λ j h. let b = d.scope.below j h in omega (arith, frame_count l T r) };
        formed = and_from _ _ (ap (takes (K.arity t.code)) len ∙ knows) (le-leb _ _ (let s = d.small in omega (arith, same_size t.k)));
        within = subst (λ (f : Frame). all_below V (vars_of_lem f slots) ≡ true) (sym k.frame)
            (all_in_range V _ (below_later a.n V _ k.within (slots_below a.n a.f slots refl a.below fits)));
      }

  pub call_scope : (l : Task) (T : MachineTree) (c : CallOf) → FormStands (book_rules book) (book_nodes book) l.goal (Call c) → Ready K V book rules m (Leaf l) T → InScope 16 (length (items l.frame)) c.slots
  call_scope l T c it r =
      let d = at_call (at_leaf l T r).tasked.goal c it in
      record { few = d.scope.few; below = λ j h. let b = d.scope.below j h in omega (arith, frame_count l T r) }

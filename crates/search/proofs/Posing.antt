-- Posing a rule, and taking an answer. Assumes nothing.
use Rattle.std.proofs.Common.{◌≡◌, ℕ, ◌+◌, ◌<◌, ◌≤◌, Bool, true, false, List, [], length, Some, None, Err, vec_len, vec_capacity, Option, Vec, Box, is_none, is_some, sym, refl, ap, ◌∙◌, subst, inl, inr, arith}
use mathlib.Core.Bool.{and-true}
use Rattle.std.proofs.lemmas.Bool.{both_ways, cases_Bool, false≢true}
use Rattle.std.specs.declared.alloc.Global.{Global}
use Rattle.bank.specs.declared.Refusal.{Refusal as BankRefusal}
use Rattle.bank.specs.declared.Refusal.TheVariants.{NotLive, NoSpare, BadConstraint, BadVariable, Contradiction, TextTooLong}
use Rattle.bank.specs.Calls.{Unchanged, Released, Added, Opens}
use Rattle.bank.specs.Kinds.{Kind, all_admitted}
use Rattle.bank.specs.Views.{Meaning, View}
use Rattle.book.specs.declared.Book.{Book}
use Rattle.book.specs.declared.Rule.{Rule as RuleOf}
use Rattle.book.specs.Language.{Rule, Rules, rule_at}
use Rattle.book.specs.Listing.{IsBook}
use Rattle.book.specs.Meaning.{book_nodes, meaning}
use Rattle.book.specs.Table.{rule_of, Rooted}
use Rattle.machine.specs.Machine.{State, Entry, begin, posed, upto}
use Rattle.machine.proofs.Posed.{upto_length}
use Rattle.machine.proofs.Rules.{own_rules_fit_lem}
use Rattle.search.specs.declared.Search.{Search}
use Rattle.search.specs.declared.refusal.Refusal.TheVariants.{NoStock}
use Rattle.frontier.specs.declared.tree.Found.{Found}
use Rattle.row.specs.declared.ShortRow.{ShortRow}
use Rattle.frontier.specs.declared.tree.Tree.{Tree}
use Rattle.frontier.specs.declared.tree.Tree.TheVariants.{Leaf, Branch', Chain'}
use Rattle.frontier.specs.Books.{Known}
use Rattle.search.specs.Parts.{tree_of}
use Rattle.search.specs.Calls.{Mine, WaitsAs, StandsFor, Good, Same, Takes, Starts, PoseRefused, Holding, Emptied}
use Rattle.row.specs.Shorts.{items}
use Rattle.frontier.specs.Trees.{leaves, Left, Holds, held, Among, standing, Elsewhere}
use Rattle.frontier.proofs.Moves.{frame, stands_live}
use Rattle.search.proofs.Along.{Called}
use Rattle.search.proofs.Runs.{same_good}

-- what is left stands where a store that is not in it ends
left_frame : (K : Kind) (V : ℕ) (book : Book) {m n : Meaning} (P : ℕ → Type 0) → Elsewhere m n P → (d : Bool) (t : Tree) (T : State)
    → ((x : ℕ) → Among d t x → P x → ⊥) → Left K V book m d t T → Left K V book n d t T
left_frame K V book P e true t None h l = tt
left_frame K V book P e true t (Some T) h l = absurd l
left_frame K V book P e false t None h l = absurd l
left_frame K V book {m} P e false t (Some T) h l = frame K V book m P e t T h l

released_else : {m n : Meaning} (s : ℕ) → Released m n s → Elsewhere m n (λ x. s ≡ x)
released_else s r = record {
  live = λ x i h. r.others.live x (λ e. i (sym e)) ∙ h;
  solutions = λ x i h σ. r.others.solutions x (λ e. i (sym e)) h σ;
}

abbrev taken_of : {S : Type 0} → Search S → S → Search S
taken_of s b = record { bank = b; book = s.book; params = s.params; tree = s.tree; pool = s.pool; waiting = None; posed = s.posed; over = s.over; steps = s.steps; stock = s.stock }

-- A rule of a book that the bank knows.
pub record Asked (K : Kind) (book : Book) (r : ℕ) (q : RuleOf) : Type 0 where
  pub there : r < length (meaning book)
  pub well : IsBook (meaning book)
  pub known : Known K (book_nodes book) (length (book_nodes book))
  pub rooted : Rooted (book_nodes book) q
  pub means : rule_at (meaning book) r ≡ rule_of (book_nodes book) q

pub asked_of :
    (K : Kind) (book : Book) (r : ℕ) (q : RuleOf) → r < length (meaning book) → IsBook (meaning book) → Known K (book_nodes book) (length (book_nodes book))
    → Rooted (book_nodes book) q → rule_at (meaning book) r ≡ rule_of (book_nodes book) q → Asked K book r q
asked_of K book n q t w k r m = record { there = t; well = w; known = k; rooted = r; means = m }

-- a rule is posed with the boxes q
abbrev begun : {S : Type 0} → Search S → S → Book → ℕ → ℕ → ShortRow ℕ 16 → ℕ → ℕ → Vec (Box Tree Global) Global → Option Found → Search S
begun s b book p i f n st q x = record {
  bank = b;
  book = book;
  params = p;
  tree = Leaf (record { goal = i; frame = f; n = n; store = st });
  pool = q;
  waiting = x;
  posed = true;
  over = false;
  steps = 0;
  stock = s.stock;
}

-- what was held is released, and nothing is posed in its place
abbrev emptied_of : {S : Type 0} → Search S → S → Option Tree → Vec (Box Tree Global) Global → Option Found → Search S
emptied_of s b u q x = record { bank = b; book = s.book; params = s.params; tree = tree_of u; pool = q; waiting = x; posed = s.posed; over = is_none u; steps = s.steps; stock = s.stock }

pub record Unposed {S : Type 0} (v : View S) (s t : Search S) (book : Book) (r : ℕ) (e : BankRefusal) : Type 0 where
  pub good : Good v t
  pub refused : PoseRefused v s book r (NoStock e)
  pub same : Same v s t

pub some_of : (x : Option Found) → is_some x ≡ true → (y : Found) × (x ≡ Some y)
some_of None h = absurd (false≢true h)
some_of (Some y) h = (y, refl)

-- a tree has a leaf
some_leaf : (t : Tree) → 1 ≤ leaves t
some_leaf (Leaf l) = omega arith
some_leaf (Branch' p a q b) = let h = some_leaf a in omega arith
some_leaf (Chain' p a g f) = some_leaf a

holds_none : (d : Bool) (t : Tree) (x : Option Found) → standing d t + held x ≡ 0 → (d ≡ true) × (x ≡ None)
holds_none true t None h = (refl, refl)
holds_none true t (Some x) h = absurd (omega arith)
holds_none false t x h = absurd (omega (arith, some_leaf t))

-- an open is refused only where none is spare
no_open : (K : Kind) (V : ℕ) {m n : Meaning} (e : BankRefusal) → Opens K V m n (Err e) → (m.spare ≡ 0) × (e ≡ NoSpare) × Unchanged m n
no_open K V NoSpare o = (o.none, refl, o.same)
no_open K V NotLive o = absurd o
no_open K V BadConstraint o = absurd o
no_open K V BadVariable o = absurd o
no_open K V Contradiction o = absurd o
no_open K V TextTooLong o = absurd o

module _ {S : Type 0} (v : View S) (s : Search S) (g : Good v s) where
  waiting_live : (x : Found) → s.waiting ≡ Some x → (rules : Rules) (rule : Rule) (T : State) (es : List Entry) → StandsFor v s rules rule T es → (v.meaning s.bank).live x.store ≡ true
  waiting_live x w rules rule T es sf =
      (subst (λ (y : Option Found). WaitsAs v.kind v.variables (v.meaning s.bank) y s.steps es) w sf.waits).stands.store.live

  pub answer_live : (x : Found) → s.waiting ≡ Some x → (v.meaning s.bank).live x.store ≡ true
  answer_live x w = at s.posed refl
    where
      at : (d : Bool) → s.posed ≡ d → (v.meaning s.bank).live x.store ≡ true
      at true p = let q = g.going p in waiting_live x w q.0 q.1 q.2 q.3 q.4
      at false p = let q = g.idle p in let e = sym w ∙ q.1 in let z : ◌≡◌ {A = ℕ} 0 1 = cc in absurd (omega (arith, z))

  tree_live : (x : ℕ) → Among s.over s.tree x → (v.meaning s.bank).live x ≡ true
  tree_live x i = at s.posed refl
    where
      in_left : (d : Bool) (T : State) → Among d s.tree x → Left v.kind v.variables s.book (v.meaning s.bank) d s.tree T → (v.meaning s.bank).live x ≡ true
      in_left true T i h = absurd i
      in_left false None i h = absurd h
      in_left false (Some T) i h = stands_live v.kind v.variables s.book (v.meaning s.bank) s.tree T h x i

      at : (e : Bool) → s.posed ≡ e → (v.meaning s.bank).live x ≡ true
      at true p = let q = g.going p in in_left s.over q.2 i q.4.tree
      at false p = absurd (subst (λ (e : Bool). Among e s.tree x) (g.idle p).0 i)

  waits_live : (x : ℕ) (w : Option Found) → s.waiting ≡ w → Holds w x → (v.meaning s.bank).live x ≡ true
  waits_live x None e h = absurd h
  waits_live x (Some y) e h = sym (ap (v.meaning s.bank).live h) ∙ answer_live y e

  pub holding : Holding (v.meaning s.bank) s.over s.tree s.waiting s.pool
  holding = record {
    live = λ x i. elim i [ inl j ↦ tree_live x j | inr j ↦ waits_live x s.waiting refl j ];
    apart = g.apart;
    parted = g.parted;
    room = omega (arith, g.pool, g.room);
  }

  pub took : (b : S) (x : Found) → s.posed ≡ true → s.waiting ≡ Some x → Released (v.meaning s.bank) (v.meaning b) x.store → Called v s (taken_of s b) (Takes v s (taken_of s b))
  took b x p w r =
      let n = v.meaning b in
      let off : (z : ℕ) → Among s.over s.tree z → x.store ≡ z → ⊥ = λ z i h. g.parted z (subst (λ (y : Option Found). Holds y z) (sym w) h) i in
      let on : (rules : Rules) (rule : Rule) (T : State) (es : List Entry) → StandsFor v s rules rule T es → StandsFor v (taken_of s b) rules rule T es = λ rules rule T es sf.
      record {
        copies = sf.copies;
        fits = sf.fits;
        params = sf.params;
        run = sf.run;
        tree = left_frame v.kind v.variables s.book (λ z. x.store ≡ z) (released_else x.store r) s.over s.tree T off sf.tree;
        waits = tt;
      } in
      let mine : (z : ℕ) → x.store ≡ z → Mine s z = λ z h. inr (subst (λ (y : Option Found). Holds y z) (sym w) h) in
      record {
        good = record {
          pool = g.pool;
          room = g.room;
          spare = omega (arith, g.spare, r.spare, ap held w);
          few = g.few;
          blank = g.blank;
          apart = g.apart;
          parted = λ z h i. h;
          going = λ e. let q = g.going e in (q.0, q.1, q.2, q.3, on q.0 q.1 q.2 q.3 q.4);
          idle = λ e. absurd (false≢true (sym e ∙ p));
        };
        does = record {
          answer = x;
          was = w;
          was_posed = p;
          is_posed = p;
          empty = refl;
          released = r.is;
          steps = refl;
          book = refl;
          stock = refl;
          stands = on;
          others = record {
            live = λ z i h. (released_else x.store r).live z (λ y. i (mine z y)) h;
            solutions = λ z i h σ. (released_else x.store r).solutions z (λ y. i (mine z y)) h σ;
            theirs = λ z i h y. elim y [ inl j ↦ i (inl j) | inr j ↦ j ];
          };
        };
        none_left = record {
          gone = λ z no h. elim h [
            | inl (inl i) ↦ absurd (no (inl i))
            | inl (inr i) ↦ sym (ap n.live (subst (λ (y : Option Found). Holds y z) w i)) ∙ r.is
            | inr i ↦ r.others.live z (λ e. both_ways ((v.meaning s.bank).live z) i (ap (v.meaning s.bank).live e ∙ r.was)) ∙ i
          ];
        };
      }

module _ {S : Type 0} (v : View S) (s : Search S) (g : Good v s) (k : S) (u : Option Tree) (x : Option Found) (q : Vec (Box Tree Global) Global)
    (c : Emptied (v.meaning s.bank) (v.meaning k) s.over s.tree s.waiting s.pool q) (none : (u ≡ None) × (x ≡ None)) where
  pub posing :
      (b : S) (book : Book) (r : ℕ) (a : RuleOf) (f : ShortRow ℕ 16) (st : ℕ) → Asked v.kind book r a → items f ≡ upto a.params
      → Added (v.meaning k) (v.meaning b) st (all_admitted v.kind v.variables)
      → let t = begun s b book a.params a.goal f a.params st q x in Called v s t (Starts v s book r t)
  posing b book r rule_asked f st a fr add =
      let m = v.meaning s.bank in
      let mid = v.meaning k in
      let n = v.meaning b in
      let rules = meaning book in
      let rule = rule_at rules r in
      let t = begun s b book rule_asked.params rule_asked.goal f rule_asked.params st q x in
      let params : rule_asked.params ≡ rule.params = sym (ap (λ (x : Rule). x.params) a.means) in
      let stands : StandsFor v t rules rule (Some (posed rule)) [] = record {
        copies = record { means = refl; well_formed = a.well.fits; known = a.known };
        fits = own_rules_fit_lem rules a.well.fits r a.there;
        params = params;
        run = begin;
        tree = record {
          goal = record { inside = a.rooted.1; scoped = a.rooted.2 ∙ params ∙ sym (upto_length rule.params); is = sym (ap (λ (x : Rule). x.goal) a.means) };
          frame = fr ∙ ap upto params;
          count = params;
          within = omega (arith, a.rooted.0, params, v.laws.wide);
          store = record { live = add.is; solutions = λ σ. add.has σ ∙ sym (and-true (all_admitted v.kind v.variables σ)) };
        };
        waits = subst (λ (y : Option Found). WaitsAs v.kind v.variables n y 0 []) (sym none.1) tt;
      } in
      let apart_from : (z : ℕ) → mid.live z ≡ true → z ≡ st → ⊥ = λ z h e. both_ways (mid.live st) add.was (sym (ap mid.live e) ∙ h) in
      record {
        good = record {
          pool = omega (arith, c.spare_boxes, g.pool);
          room = omega (arith, c.room, g.room);
          spare = omega (arith, add.spare, c.bank.spare, g.spare, ap held none.1);
          few = a.rooted.0;
          blank = λ h. refl;
          apart = tt;
          parted = λ z h i. subst (λ (y : Option Found). Holds y z) none.1 h;
          going = λ _. (rules, rule, Some (posed rule), [], stands);
          idle = λ e. absurd (false≢true (sym e));
        };
        does = record {
          there = a.there;
          is_posed = refl;
          steps = refl;
          empty = none.1;
          book_is = refl;
          stock = refl;
          stands = stands;
          others = record {
            live = λ z i h. let k = c.bank.live z i ∙ h in add.others.live z (apart_from z k) ∙ k;
            solutions = λ z i h σ. let k = c.bank.live z i ∙ h in add.others.solutions z (apart_from z k) k σ ∙ c.bank.solutions z i h σ;
            theirs = λ z i h y. elim y [
              | inl j ↦ apart_from z (c.bank.live z i ∙ h) (sym j)
              | inr j ↦ subst (λ (y : Option Found). Holds y z) none.1 j
            ];
          };
          released = λ z i no. add.others.live z (λ e. no (inl (sym e))) ∙ c.bank.gone z i;
        };
        none_left = record {
          gone = λ z no h. add.others.live z (λ e. no (inl (sym e))) ∙ elim h [
            | inl i ↦ c.bank.gone z i
            | inr i ↦ elim (cases_Bool (mid.live z)) [
              | inl alive ↦ c.bank.live z (λ j. both_ways (mid.live z) (c.bank.gone z j) alive) ∙ i
              | inr dead ↦ dead
            ]
          ];
        };
      }

  -- where no store is spare, nothing was held, and nothing has changed
  pub not_posing :
      (b : S) (book : Book) (r : ℕ) (a : RuleOf) (w : BankRefusal)
      → (s.over ≡ true → s.waiting ≡ None → (k ≡ s.bank) × (tree_of u ≡ s.tree) × (q ≡ s.pool))
      → Asked v.kind book r a → Opens v.kind v.variables (v.meaning k) (v.meaning b) (Err w) → Unposed v s (emptied_of s b u q x) book r w
  not_posing b book r a w idle asked o =
      let n = no_open v.kind v.variables w o in
      let stock : s.stock ≡ 0 = omega (arith, n.0, c.bank.spare, g.spare) in
      let held_none = holds_none s.over s.tree s.waiting (omega (arith, stock, g.spare)) in
      let was = idle held_none.0 held_none.1 in
      let same : Same v s (emptied_of s b u q x) = record {
        bank = subst (λ (y : S). Unchanged (v.meaning y) (v.meaning b)) was.0 n.2;
        book = refl;
        params = refl;
        tree = was.1;
        waiting = none.1 ∙ sym held_none.1;
        posed = refl;
        over = ap (λ (t : Option Tree). is_none t) none.0 ∙ sym held_none.0;
        steps = refl;
        stock = refl;
        spare_boxes = ap (λ (p : Vec (Box Tree Global) Global). vec_len p) was.2;
        room = ap (λ (p : Vec (Box Tree Global) Global). vec_capacity p) was.2;
      } in
      record {
        good = same_good v s (emptied_of s b u q x) same g;
        refused = record { there = asked.there; known = asked.known; stock = stock; cause = n.1 };
        same = same;
      }

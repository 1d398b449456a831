-- How a run ends. Assumes nothing.
use Rattle.std.proofs.Common.{◌≡◌, ℕ, ◌+◌, ◌<◌, Bool, true, false, List, Some, None, Ok, Err, Option, sym, refl, ap, ◌∙◌, subst, inl, inr, arith}
use Rattle.frontier.specs.declared.tree.Tree.{Tree}
use Rattle.book.specs.declared.Book.{Book}
use Rattle.frontier.specs.declared.tree.Found.{Found}
use Rattle.search.specs.declared.Search.{Search}
use Rattle.frontier.specs.declared.stop.Stop.{Stop}
use Rattle.frontier.specs.declared.stop.Stop.TheVariants.{Nodes, Variables, Stores}
use Rattle.search.specs.declared.refusal.Refusal.{Refusal}
use Rattle.search.specs.declared.refusal.Refusal.TheVariants.{NoSuchRule, UnknownTell, NoStock, NothingPosed, AnswerWaits, TooManySteps, TooManyNodes, NoVariable, NoStore, NoAnswer, ShortBuffer, LineTooLong}
use Rattle.search.specs.declared.Outcome.{Outcome}
use Rattle.search.specs.declared.Ran.{Ran}
use Rattle.search.specs.declared.Outcome.TheVariants.{Answer as Answered, Exhausted, Spent}
use Rattle.bank.specs.Kinds.{Kind}
use Rattle.book.specs.Language.{Rule, Rules}
use Rattle.machine.specs.Machine.{Answer, State, Tree as MachineTree, Entry, Run, noted}
use Rattle.bank.specs.Views.{Meaning, View}
use Rattle.bank.specs.Calls.{Unchanged}
use Rattle.frontier.specs.Books.{Copies}
use Rattle.frontier.specs.Trees.{boxes, Left, Given, Holds, held, Among, standing, AllApart, Elsewhere}
use Rattle.search.specs.Calls.{Mine, WaitsAs, StandsFor, Good, Untouched, NoneLeft, Same, OneMore, NoMore, Barred, Runs, RunHalted, MayRun, StopsBy, RunDoes, halt_at}
use Rattle.search.specs.Refusals.{halted}
use Rattle.frontier.proofs.Leaf.{unchanged}
use Rattle.frontier.proofs.Moves.{frame, nothing_left, some_left}
use Rattle.search.proofs.Along.{Along, Since, untouched_on, none_left_on}

nowhere : {m n : Meaning} → Unchanged m n → Elsewhere m n (λ x. ⊥)
nowhere u = record { live = λ x i h. u.live x ∙ h; solutions = λ x i h σ. u.solutions x h σ }

module _ (K : Kind) (V : ℕ) (book : Book) {m n : Meaning} (u : Unchanged m n) where
  left_same : (d : Bool) (t : Tree) (T : State) → Left K V book m d t T → Left K V book n d t T
  left_same true t None h = tt
  left_same true t (Some T) h = absurd h
  left_same false t None h = absurd h
  left_same false t (Some T) h = frame K V book m (λ x. ⊥) (nowhere u) t T (λ x i y. y) h

  waits_same : (x : Option Found) (k : ℕ) (es : List Entry) → WaitsAs K V m x k es → WaitsAs K V n x k es
  waits_same None k es h = tt
  waits_same (Some x) k es h = record {
    before = h.before;
    last = h.last;
    place = h.place;
    stands = record {
      count = h.stands.count;
      within = h.stands.within;
      store = record {
        live = u.live x.store ∙ h.stands.store.live;
        solutions = λ σ. u.solutions x.store h.stands.store.live σ ∙ h.stands.store.solutions σ;
      };
    };
  }

module _ {S : Type 0} (v : View S) (s t : Search S) (e : Same v s t) where
  pub same_stands : (rules : Rules) (rule : Rule) (T : State) (es : List Entry) → StandsFor v s rules rule T es → StandsFor v t rules rule T es
  same_stands rules rule T es sf =
      let K = v.kind in
      let V = v.variables in
      let n = v.meaning t.bank in
      record {
        copies = subst (λ (book : Book). Copies K book rules) (sym e.book) sf.copies;
        fits = sf.fits;
        params = e.params ∙ sf.params;
        run = subst (λ (k : ℕ). Run K rules rule k T es) (sym e.steps) sf.run;
        tree =
            subst (λ (book : Book). Left K V book n t.over t.tree T) (sym e.book)
            (subst (λ (d : Bool). Left K V s.book n d t.tree T) (sym e.over)
            (subst (λ (u : Tree). Left K V s.book n s.over u T) (sym e.tree)
            (left_same K V s.book e.bank s.over s.tree T sf.tree)));
        waits =
            subst (λ (k : ℕ). WaitsAs K V n t.waiting k es) (sym e.steps)
            (subst (λ (x : Option Found). WaitsAs K V n x s.steps es) (sym e.waiting)
            (waits_same K V s.book e.bank s.waiting s.steps es sf.waits));
      }

  among : (x : ℕ) → Among t.over t.tree x → Among s.over s.tree x
  among x h = subst (λ (u : Tree). Among s.over u x) e.tree (subst (λ (d : Bool). Among d t.tree x) e.over h)

  holds : (x : ℕ) → Holds t.waiting x → Holds s.waiting x
  holds x h = subst (λ (y : Option Found). Holds y x) e.waiting h

  mine : (x : ℕ) → Mine s x → Mine t x
  mine x (inl i) = inl (subst (λ (d : Bool). Among d t.tree x) (sym e.over) (subst (λ (u : Tree). Among s.over u x) (sym e.tree) i))
  mine x (inr i) = inr (subst (λ (y : Option Found). Holds y x) (sym e.waiting) i)

  same_standing : standing t.over t.tree ≡ standing s.over s.tree
  same_standing = ap (λ (d : Bool). standing d t.tree) e.over ∙ ap (λ (u : Tree). standing s.over u) e.tree

  pub same_good : Good v s → Good v t
  same_good g = record {
    pool = omega (arith, e.spare_boxes, ap boxes e.tree, g.pool);
    room = omega (arith, e.room, g.room);
    spare = omega (arith, e.bank.spare, same_standing, ap held e.waiting, e.stock, g.spare);
    few = omega (arith, e.params, g.few);
    blank = λ h. ap boxes e.tree ∙ g.blank (sym e.over ∙ h);
    apart = subst (λ (d : Bool). AllApart d t.tree) (sym e.over) (subst (λ (u : Tree). AllApart s.over u) (sym e.tree) g.apart);
    parted = λ x h i. g.parted x (holds x h) (among x i);
    going = λ p. let q = g.going (sym e.posed ∙ p) in (q.0, q.1, q.2, q.3, same_stands q.0 q.1 q.2 q.3 q.4);
    idle = λ p. let q = g.idle (sym e.posed ∙ p) in (e.over ∙ q.0, e.waiting ∙ q.1);
  }

  pub same_untouched : Untouched v s t
  same_untouched = record {
    live = λ x i h. e.bank.live x ∙ h;
    solutions = λ x i h σ. e.bank.solutions x h σ;
    theirs = λ x i h y. i (elim y [ inl j ↦ inl (among x j) | inr j ↦ inr (holds x j) ]);
  }

  pub same_none_left : NoneLeft v s t
  same_none_left = record { gone = λ x no h. e.bank.live x ∙ elim h [ inl i ↦ absurd (no (mine x i)) | inr i ↦ i ] }

  same_barred : (rules : Rules) (A : MachineTree) (w : Stop) → Barred v s rules A w → Barred v t rules A w
  same_barred rules A Nodes h = h
  same_barred rules A Variables h = h
  same_barred rules A (Stores w) h = record {
    roomy = h.roomy;
    not_new = h.not_new;
    at_or = h.at_or;
    all_held = same_standing ∙ h.all_held ∙ sym e.stock;
    cause = h.cause;
  }

module _ {S : Type 0} (v : View S) (s t : Search S) (k b : ℕ) (a : Along v s t k b) where
  made_runs : Runs v s t k b
  made_runs = record {
    was_posed = a.was_posed;
    is_posed = a.is_posed;
    none_waited = a.none_waited;
    near = a.near;
    few = a.few;
    steps = a.steps;
    book = a.book;
    stock = a.stock;
    others = a.others;
  }

  -- where no answer waits, none came
  none_came : t.waiting ≡ None → (rules : Rules) (rule : Rule) (T : State) (es : List Entry) → (sf : StandsFor v s rules rule T es) → (a.stands rules rule T es sf).entries ≡ es
  none_came w rules rule T es sf = let i = a.stands rules rule T es sf in subst (λ (x : Option Found). Since v t es i.entries k x) w i.since

  -- a run that stops says so
  pub stops : (o : Outcome) (r : Ran) → StopsBy t k b (Some o) → r ≡ record { outcome = o; steps = k; total = t.steps } → RunDoes v s b (Ok r) t
  stops (Answered x) r h e = subst (λ (r : Ran). RunDoes v s b (Ok r) t) (sym e) (record {
    runs = made_runs;
    total = refl;
    leads = λ rules rule T es sf.
        let i = a.stands rules rule T es sf in
        let l = subst (λ (x : Option Found). Since v t es i.entries k x) h i.since in
        record {
          state = i.state;
          entries = i.entries;
          stands = i.stands;
          ends = record { stepped = l.stepped; waits = h; answer = l.answer; latest = l.latest; stands = l.stands };
        };
  })
  stops Exhausted r h e = subst (λ (r : Ran). RunDoes v s b (Ok r) t) (sym e) (record {
    runs = made_runs;
    total = refl;
    leads = λ rules rule T es sf.
        let i = a.stands rules rule T es sf in
        record {
          state = i.state;
          entries = i.entries;
          stands = i.stands;
          ends = record {
            empty = h.0;
            nothing = nothing_left v.kind v.variables t.book (v.meaning t.bank) t.tree i.state
                (subst (λ (d : Bool). Left v.kind v.variables t.book (v.meaning t.bank) d t.tree i.state) h.1 i.stands.tree);
            no_answer = none_came h.0 rules rule T es sf;
          };
        };
  })
  stops Spent r h e = subst (λ (r : Ran). RunDoes v s b (Ok r) t) (sym e) (record {
    runs = made_runs;
    total = refl;
    leads = λ rules rule T es sf.
        let i = a.stands rules rule T es sf in
        let j = some_left v.kind v.variables t.book (v.meaning t.bank) t.tree i.state
        (subst (λ (d : Bool). Left v.kind v.variables t.book (v.meaning t.bank) d t.tree i.state) h.1 i.stands.tree) in
        record {
          state = i.state;
          entries = i.entries;
          stands = i.stands;
          ends = record { empty = h.0; all_made = h.2; tree = j.0; something = j.1; no_answer = none_came h.0 rules rule T es sf };
        };
  })

module _ {S : Type 0} (v : View S) (s t u : Search S) (k b : ℕ) (a : Along v s t k b) (l : k < b) (w : t.waiting ≡ None) where
  halted_at : (e : Stop) → NoMore v t u e → RunHalted v s b (halt_at u k) e u
  halted_at e h = record {
    runs = record {
      was_posed = a.was_posed;
      is_posed = h.same.posed ∙ a.is_posed;
      none_waited = a.none_waited;
      near = a.near;
      few = a.few;
      steps = h.same.steps ∙ a.steps;
      book = h.same.book ∙ a.book;
      stock = h.same.stock ∙ a.stock;
      others = untouched_on v s t u a.others (same_untouched v t u h.same);
    };
    some_left = l;
    at = refl;
    leads = λ rules rule T es sf.
        let i = a.stands rules rule T es sf in
        let x = subst (λ (fs : List Entry). StandsFor v t rules rule i.state fs) (none_came v s t k b a w rules rule T es sf) i.stands in
        let j = h.barred rules rule i.state es x in
        record {
          state = j.0;
          stands = subst (λ (T : State). StandsFor v u rules rule T es) j.1 (same_stands v t u h.same rules rule i.state es x);
          empty = h.same.waiting ∙ w;
          barred = same_barred v t u h.same rules j.0 e j.2;
        };
  }

  pub stopped : (e : Stop) (r : Refusal) → r ≡ halted e (halt_at u k) → NoMore v t u e → RunDoes v s b (Err r) u
  stopped Nodes r x h = subst (λ (r : Refusal). RunDoes v s b (Err r) u) (sym x) (halted_at Nodes h)
  stopped Variables r x h = subst (λ (r : Refusal). RunDoes v s b (Err r) u) (sym x) (halted_at Variables h)
  stopped (Stores e) r x h = subst (λ (r : Refusal). RunDoes v s b (Err r) u) (sym x) (halted_at (Stores e) h)

  since_step : (es : List Entry) (x : Option Found) (o : Option Answer) → Given v.kind v.variables (v.meaning u.bank) x o → Since v u es (noted es u.steps o) (k + 1) x
  since_step es None None h = refl
  since_step es None (Some y) h = absurd h
  since_step es (Some x) None h = absurd h
  since_step es (Some x) (Some y) h = record { stepped = omega arith; answer = y; latest = refl; stands = h }

  pub along_on : OneMore v t u → NoneLeft v t u → Along v s u (k + 1) b
  along_on o n = record {
    was_posed = a.was_posed;
    none_waited = a.none_waited;
    near = a.near;
    is_posed = o.is_posed;
    steps = omega (arith, o.steps, a.steps);
    few = omega (arith, l);
    book = o.book ∙ a.book;
    stock = o.stock ∙ a.stock;
    others = untouched_on v s t u a.others o.others;
    none_left = none_left_on v s t u a.none_left n;
    stands = λ rules rule T es sf.
        let i = a.stands rules rule T es sf in
        let m = o.stands rules rule i.state es (subst (λ (fs : List Entry). StandsFor v t rules rule i.state fs) (none_came v s t k b a w rules rule T es sf) i.stands) in
        record { state = m.state; entries = noted es u.steps m.given; stands = m.stands; since = since_step es u.waiting m.given m.answer };
  }

pub same_refl : {S : Type 0} (v : View S) (s : Search S) → Same v s s
same_refl v s = record {
  bank = unchanged;
  book = refl;
  params = refl;
  tree = refl;
  waiting = refl;
  posed = refl;
  over = refl;
  steps = refl;
  stock = refl;
  spare_boxes = refl;
  room = refl;
}

-- a run that may not begin changes nothing
pub not_run : {S : Type 0} (v : View S) (s : Search S) (b : ℕ) (e : Refusal) → MayRun s b (Err e) → RunDoes v s b (Err e) s
not_run v s b NothingPosed h = (h, same_refl v s)
not_run v s b AnswerWaits h = (h.0, h.1, same_refl v s)
not_run v s b TooManySteps h = (h.0, h.1, h.2, same_refl v s)
not_run v s b (TooManyNodes k) h = absurd h
not_run v s b (NoVariable k) h = absurd h
not_run v s b (NoStore k e) h = absurd h
not_run v s b NoSuchRule h = absurd h
not_run v s b (UnknownTell line) h = absurd h
not_run v s b (NoStock e) h = absurd h
not_run v s b NoAnswer h = absurd h
not_run v s b ShortBuffer h = absurd h
not_run v s b (LineTooLong o) h = absurd h

-- The promise for any two histories, from the theory of the machine. Assumes nothing.
use Rattle.std.proofs.Common.{◌≡◌, ℕ, ◌≤◌, min, Bool, true, false, cond, leb, ◌≢◌, ◌⊎◌, List, [], ◌∷◌, ◌++◌, Some, None, Option, sym, refl, ap, ◌∙◌, subst, inl, inr, arith, leb-true}
use borrow.Author.Tests.{false-leb}
use Rattle.search.specs.declared.Search.{Search}
use Rattle.frontier.specs.declared.tree.Found.{Found}
use Rattle.search.specs.Calls.{WaitsAs}
use Rattle.book.specs.Language.{Each}
use Rattle.bank.specs.Kinds.{Kind, Value, Assignment, solves}
use Rattle.book.specs.Language.{Rule, WellFormed}
use Rattle.machine.specs.Theorems.{RuleFits}
use Rattle.machine.specs.Machine.{Side, State, Run, begin, next, Entry, upto}
use Rattle.machine.specs.Derivations.{weight, choices, Occurs, solutions}
use Rattle.machine.specs.Theorems.{till}
use Rattle.book.proofs.Misfits.{each_append}
use Rattle.machine.proofs.Determinism.{agree}
use Rattle.machine.proofs.Completeness.{complete}
use Rattle.machine.proofs.Soundness.{sound}
use Rattle.machine.proofs.Values.{Local}
use Rattle.machine.proofs.Frames.{Below, agree_map}
use Rattle.bank.specs.Views.{View}
use Rattle.search.specs.History.{Subject, rule_of, Answer, answers, exhausted}
use Rattle.search.specs.Promise.{by_step, Alike, Waits, Chosen, Complete, Sound, Promise}
use Rattle.search.proofs.Before.{untouched}
use Rattle.frontier.proofs.Fill.{narrow, widen}
use Rattle.frontier.proofs.Scopes.{run_fine}
use Rattle.search.proofs.Reached.{Matches, Reached, ReachedFor, reached}

which : (t u : ℕ) → (t ≤ u) ⊎ (u ≤ t)
which t u = split (leb t u) refl
  where
    split : (b : Bool) → leb t u ≡ b → (t ≤ u) ⊎ (u ≤ t)
    split true e = inl (leb-true t u e)
    split false e = inr (let l = false-leb t u (sym e) in omega arith)

-- A history, as the theory sees it.
pub record Traced (K : Kind) (V : ℕ) (q : Subject) (t : ℕ) (xs : List Answer) (over : Bool) : Type 0 where
  pub state : State
  pub entries : List Entry
  pub run : Run K q.rules (rule_of q) t state entries
  pub matches : Matches K V xs entries
  pub ends : over ≡ true → state ≡ None
  pub well_formed : WellFormed q.rules
  pub fits : RuleFits q.rules (rule_of q)
  pub some_value : (v : Value) × (K.admits v ≡ true)

traced : {S : Type 0} (v : View S) (s : Search S) (q : Subject) (xs : List Answer) (over : Bool) → Reached v s q xs over → Traced v.kind v.variables q s.steps xs over
traced v s q xs over r =
    record {
      state = r.state;
      entries = r.entries;
      run = r.stands.run;
      matches = r.matches;
      ends = r.ends;
      well_formed = r.stands.copies.well_formed;
      fits = r.stands.fits;
      some_value = v.laws.some_value;
    }

-- The answer matches the entry, which speaks of its own variables.
pub record Match (K : Kind) (V : ℕ) (rule : Rule) (x : Answer) (e : Entry) : Type 0 where
  pub step : x.step ≡ e.step
  pub within : e.answer.n ≤ V
  pub solutions : (σ : Assignment) → x.solutions σ ≡ solves K V e.answer.told σ
  pub local : Local K e.answer
  pub params : Below e.answer.n (upto rule.params)

module _ (K : Kind) (rule : Rule) (val : (v : Value) × (K.admits v ≡ true)) where
  -- what occurs in the answer of a store occurs in the machine's, and back
  to_machine : (V : ℕ) (x : Answer) (e : Entry) → Match K V rule x e → (vs : List Value) → Occurs rule.params x.solutions vs → Occurs rule.params (solutions K e.answer) vs
  to_machine V x e m vs o = (o.0, narrow K e.answer.n V e.answer.told o.0 m.within (sym (m.solutions o.0) ∙ o.1), o.2)

  to_store : (V : ℕ) (x : Answer) (e : Entry) → Match K V rule x e → (vs : List Value) → Occurs rule.params (solutions K e.answer) vs → Occurs rule.params x.solutions vs
  to_store V x e m vs o =
      let w = widen K val.0 val.1 V e.answer o.0 m.local o.1 in
      (w.0, m.solutions w.0 ∙ w.2, agree_map e.answer.n w.0 o.0 w.1 (upto rule.params) m.params ∙ o.2)

  match : (V : ℕ) (x : Answer) (e : Entry)
      → (x.step ≡ e.step) × (e.answer.n ≤ V) × ((σ : Assignment) → x.solutions σ ≡ solves K V e.answer.told σ)
      → Local K e.answer × Below e.answer.n (upto rule.params) → Match K V rule x e
  match V x e h o = record { step = h.0; within = h.1; solutions = h.2; local = o.0; params = o.1 }

  alike :
      (V W : ℕ) (xs ys : List Answer) (es : List Entry)
      → Each (λ e. Local K e.answer × Below e.answer.n (upto rule.params)) es
      → Matches K V xs es → Matches K W ys es → Alike rule.params xs ys
  alike V W [] [] [] o h k = tt
  alike V W [] (y ∷ ys) [] o h k = absurd k
  alike V W (x ∷ xs) [] [] o h k = absurd h
  alike V W (x ∷ xs) (y ∷ ys) [] o h k = absurd h
  alike V W [] [] (e ∷ es) o h k = absurd h
  alike V W [] (y ∷ ys) (e ∷ es) o h k = absurd h
  alike V W (x ∷ xs) [] (e ∷ es) o h k = absurd k
  alike V W (x ∷ xs) (y ∷ ys) (e ∷ es) o h k =
      let m = match V x e h.0 o.0 in
      let n = match W y e k.0 o.0 in (
        record {
          step = m.step ∙ sym n.step;
          solutions = record {
            there = λ vs u. to_store W y e n vs (to_machine V x e m vs u);
            back = λ vs u. to_store V x e m vs (to_machine W y e n vs u);
          };
        },
        alike V W xs ys es o.1 h.1 k.1,
      )

-- the answers by step t match the entries by step t
matches_till : (K : Kind) (V t : ℕ) (xs : List Answer) (es : List Entry) → Matches K V xs es → Matches K V (by_step t xs) (till t es)
matches_till K V t [] [] h = tt
matches_till K V t [] (e ∷ es) h = absurd h
matches_till K V t (x ∷ xs) [] h = absurd h
matches_till K V t (x ∷ xs) (e ∷ es) h =
    let more = matches_till K V t xs es h.1 in
    subst (λ (n : ℕ). Matches K V (cond (leb n t) (x ∷ by_step t xs) (by_step t xs)) (till t (e ∷ es))) (sym h.0.0) (split (leb e.step t) more)
  where
    split : (b : Bool) → Matches K V (by_step t xs) (till t es) → Matches K V (cond b (x ∷ by_step t xs) (by_step t xs)) (cond b (e ∷ till t es) (till t es))
    split true more = (h.0, more)
    split false more = more

each_till : (P : Entry → Type 0) (t : ℕ) (es : List Entry) → Each P es → Each P (till t es)
each_till P t [] h = tt
each_till P t (e ∷ es) h = split (leb e.step t) (each_till P t es h.1)
  where
    split : (b : Bool) → Each P (till t es) → Each P (cond b (e ∷ till t es) (till t es))
    split true i = (h.0, i)
    split false i = i

till_twice : (t : ℕ) (es : List Entry) → till t (till t es) ≡ till t es
till_twice t [] = refl
till_twice t (e ∷ es) = split (leb e.step t) refl (till_twice t es)
  where
    split : (b : Bool) → leb e.step t ≡ b → till t (till t es) ≡ till t es → till t (cond b (e ∷ till t es) (till t es)) ≡ cond b (e ∷ till t es) (till t es)
    split true h i = rw h (ap {B = List Entry} (λ r. e ∷ r) i)
    split false h i = i

module _ {K : Kind} {V W : ℕ} {q : Subject} {t u : ℕ} {xs ys : List Answer} {over over' : Bool} (x : Traced K V q t xs over) (y : Traced K W q u ys over') where
  shorter : t ≤ u → Alike (rule_of q).params (by_step t xs) (by_step t ys)
  shorter l =
      let both = agree x.run y.run l in
      let same : till t x.entries ≡ till t y.entries = ap (till t) both.same_answers ∙ till_twice t y.entries in
      let fine = run_fine K q.rules y.well_formed y.fits y.run in
      alike K (rule_of q) x.some_value V W (by_step t xs) (by_step t ys) (till t y.entries)
      (each_till _ t y.entries fine.own)
      (subst (λ (es : List Entry). Matches K V (by_step t xs) es) same (matches_till K V t xs x.entries x.matches))
      (matches_till K W t ys y.entries y.matches)

  longer : u ≤ t → Alike (rule_of q).params (by_step u xs) (by_step u ys)
  longer l =
      let both = agree y.run x.run l in
      let same : till u y.entries ≡ till u x.entries = ap (till u) both.same_answers ∙ till_twice u x.entries in
      let fine = run_fine K q.rules x.well_formed x.fits x.run in
      alike K (rule_of q) x.some_value V W (by_step u xs) (by_step u ys) (till u x.entries)
      (each_till _ u x.entries fine.own)
      (matches_till K V u xs x.entries x.matches)
      (subst (λ (es : List Entry). Matches K W (by_step u ys) es) same (matches_till K W u ys y.entries y.matches))

  pub both_alike : Alike (rule_of q).params (by_step (min t u) xs) (by_step (min t u) ys)
  both_alike = elim (which t u) [
    | inl l ↦ let e : min t u ≡ t = omega arith in rw e (shorter l)
    | inr l ↦ let e : min t u ≡ u = omega arith in rw e (longer l)
  ]

  pub goes_no_further : over ≡ true → u ≤ t
  goes_no_further o = elim (which t u) [
    | inl l ↦ let e = (agree x.run y.run l).no_more (x.ends o) in omega arith
    | inr l ↦ l
  ]

-- the last of a list, known in two ways
last_same : (xs ys : List Entry) (x y : Entry) → xs ++ (x ∷ []) ≡ ys ++ (y ∷ []) → x ≡ y
last_same [] [] x y e = cc
last_same [] (b ∷ []) x y e = absurd (let z : ◌≡◌ {A = List Entry} [] (y ∷ []) = cc in let w : ◌≡◌ {A = ℕ} 0 1 = cc in omega arith)
last_same [] (b ∷ (c ∷ ys)) x y e = absurd (let z : ◌≡◌ {A = List Entry} [] (c ∷ (ys ++ (y ∷ []))) = cc in let w : ◌≡◌ {A = ℕ} 0 1 = cc in omega arith)
last_same (a ∷ []) [] x y e = absurd (let z : ◌≡◌ {A = List Entry} (x ∷ []) [] = cc in let w : ◌≡◌ {A = ℕ} 0 1 = cc in omega arith)
last_same (a ∷ (c ∷ xs)) [] x y e = absurd (let z : ◌≡◌ {A = List Entry} (c ∷ (xs ++ (x ∷ []))) [] = cc in let w : ◌≡◌ {A = ℕ} 0 1 = cc in omega arith)
last_same (a ∷ xs) (b ∷ ys) x y e = last_same xs ys x y (cc)

-- the machine's answer at a step has one list of choices
chosen_once : (K : Kind) (q : Subject) (t : ℕ) (c d : List Side) → Chosen K q t c → Chosen K q t d → c ≡ d
chosen_once K q t c d x y =
    let same = ((agree x.run y.run (omega arith)).same_end refl).1 in
    let last = last_same x.before y.before _ _ same in
    sym x.its_choices ∙ ap (λ (e : Entry). e.answer.choices) last ∙ y.its_choices

-- each answer of a run has the choices of the machine's at its step
all_chosen :
    {K : Kind} (q : Subject) {t : ℕ} {S : State} {es : List Entry}
    → Run K q.rules (rule_of q) t S es → Each (λ e. Chosen K q e.step e.answer.choices) es
all_chosen q begin = tt
all_chosen q (next {o = None} r st) = all_chosen q r
all_chosen {K} q (next {t = t} {es = es} {o = Some a} {S = S} r st) =
    each_append (λ e. Chosen K q e.step e.answer.choices) es _ (all_chosen q r)
    (record { state = S; before = es; answer = a; run = next r st; its_choices = refl }, tt)

each_both : (P Q : Entry → Type 0) (es : List Entry) → Each P es → Each Q es → Each (λ e. P e × Q e) es
each_both P Q [] h k = tt
each_both P Q (e ∷ es) h k = ((h.0, k.0), each_both P Q es h.1 k.1)

each_front : (P : Entry → Type 0) (xs ys : List Entry) → Each P (xs ++ ys) → Each P xs
each_front P [] ys h = tt
each_front P (x ∷ xs) ys h = (h.0, each_front P xs ys h.1)

each_back : (P : Entry → Type 0) (xs ys : List Entry) → Each P (xs ++ ys) → Each P ys
each_back P [] ys h = h
each_back P (x ∷ xs) ys h = each_back P xs ys h.1

module _ (K : Kind) (V : ℕ) where
  abbrev Pairs : Answer → Entry → Type 0
  Pairs x e = (x.step ≡ e.step) × (e.answer.n ≤ V) × ((σ : Assignment) → x.solutions σ ≡ solves K V e.answer.told σ)

  each_matched :
      (P : Entry → Type 0) (Q : Answer → Type 0) → ((x : Answer) (e : Entry) → Pairs x e → P e → Q x)
      → (xs : List Answer) (es : List Entry) → Matches K V xs es → Each P es → Each Q xs
  each_matched P Q f [] [] m h = tt
  each_matched P Q f [] (e ∷ es) m h = absurd m
  each_matched P Q f (x ∷ xs) [] m h = absurd m
  each_matched P Q f (x ∷ xs) (e ∷ es) m h = (f x e m.0 h.0, each_matched P Q f xs es m.1 h.1)

  -- where an entry stands among others, so does its answer
  record Cut (xs : List Answer) (before : List Entry) (found : Entry) (after : List Entry) : Type 0 where
    pub front : List Answer
    pub here : Answer
    pub back : List Answer
    pub place : xs ≡ front ++ (here ∷ back)
    pub front_matches : Matches K V front before
    pub here_matches : Pairs here found
    pub back_matches : Matches K V back after

  cut : (xs : List Answer) (before : List Entry) (found : Entry) (after : List Entry) → Matches K V xs (before ++ (found ∷ after)) → Cut xs before found after
  cut [] [] found after m = absurd m
  cut [] (e ∷ before) found after m = absurd m
  cut (x ∷ xs) [] found after m = record { front = []; here = x; back = xs; place = refl; front_matches = tt; here_matches = m.0; back_matches = m.1 }
  cut (x ∷ xs) (e ∷ before) found after m =
      let c = cut xs before found after m.1 in
      record {
        front = x ∷ c.front;
        here = c.here;
        back = c.back;
        place = ap {B = List Answer} (λ r. x ∷ r) c.place;
        front_matches = (m.0, c.front_matches);
        here_matches = c.here_matches;
        back_matches = c.back_matches;
      }

module _ {K : Kind} {V : ℕ} {q : Subject} {t : ℕ} {xs : List Answer} {over : Bool} (x : Traced K V q t xs over) where
  abbrev Known : Entry → Type 0
  Known e = (Local K e.answer × Below e.answer.n (upto (rule_of q).params)) × Chosen K q e.step e.answer.choices

  known : Each Known x.entries
  known = each_both _ _ x.entries (run_fine K q.rules x.well_formed x.fits x.run).own (all_chosen q x.run)

  at_step : (y : Answer) (e : Entry) (ch : List Side) → y.step ≡ e.step → Chosen K q e.step ch → Chosen K q y.step ch
  at_step y e ch s c = subst (λ (n : ℕ). Chosen K q n ch) (sym s) c

  pub is_sound : Sound K q xs
  is_sound =
      each_matched K V _ _
      (λ y e m k vs o. record {
        its_choices = e.answer.choices;
        chosen = at_step y e e.answer.choices m.0 k.0.1;
        derived = k.1 vs (to_machine K (rule_of q) x.some_value V y e (match K (rule_of q) x.some_value V y e m k.0.0) vs o);
      })
      xs x.entries x.matches
      (each_both Known _ x.entries known (sound K q.rules (rule_of q) x.well_formed x.fits t x.state x.entries x.run))

  none_has :
      (ch : List Side) (ys : List Answer) (es : List Entry) → Matches K V ys es → Each Known es → Each (λ e. e.answer.choices ≢ ch) es
      → Each (λ y. Chosen K q y.step ch → ⊥) ys
  none_has ch ys es m k n =
      each_matched K V _ _
      (λ y e p h c. h.1 (chosen_once K q y.step e.answer.choices ch (at_step y e e.answer.choices p.0 h.0.1) c))
      ys es m (each_both Known _ es k n)

  pub is_complete : Complete K q xs t over
  is_complete vs pos D h =
      let f = complete K q.rules (rule_of q) x.well_formed x.fits vs pos D t x.state x.entries x.run
      (elim h [ inl l ↦ inl l | inr o ↦ inr (x.ends o) ]) in
      let all = subst (λ (es : List Entry). Each Known es) f.place known in
      let c = cut K V xs f.before f.found f.after (subst (λ (es : List Entry). Matches K V xs es) f.place x.matches) in
      let tail = each_back Known f.before (f.found ∷ f.after) all in
      let s = c.here_matches.0 in
      record {
        before = c.front;
        found = c.here;
        after = c.back;
        place = c.place;
        its_choices = subst (λ (ch : List Side). Chosen K q c.here.step ch) f.its_choices (at_step c.here f.found f.found.answer.choices s tail.0.1);
        none_before = none_has (choices D) c.front f.before c.front_matches (each_front Known f.before (f.found ∷ f.after) all) f.none_before;
        none_after = none_has (choices D) c.back f.after c.back_matches tail.1 f.none_after;
        in_time = subst (λ (n : ℕ). n ≤ weight D) (sym s) f.in_time;
        occurs = to_store K (rule_of q) x.some_value V c.here f.found (match K (rule_of q) x.some_value V c.here f.found c.here_matches tail.0.0) vs f.occurs;
      }

-- the answer that waits is the latest, and its store has its solutions still
waits :
    {S : Type 0} (v : View S) (s : Search S) (q : Subject) (xs : List Answer) (over : Bool) → Reached v s q xs over
    → (x : Found) → s.waiting ≡ Some x → Waits v s x xs
waits v s q xs over r x w =
    let l = subst (λ (y : Option Found). WaitsAs v.kind v.variables (v.meaning s.bank) y s.steps r.entries) w r.stands.waits in
    let e : Entry = record { step = s.steps; answer = l.last } in
    let c = cut v.kind v.variables xs l.before e [] (subst (λ (es : List Entry). Matches v.kind v.variables xs es) l.place r.matches) in
    record {
      before = c.front;
      latest = c.here;
      place = c.place ∙ ap (λ (ys : List Answer). c.front ++ (c.here ∷ ys)) (none_back c.back c.back_matches);
      step = c.here_matches.0;
      solutions = λ σ. l.stands.store.solutions σ ∙ sym (c.here_matches.2 σ);
    }
  where
    none_back : (ys : List Answer) → Matches v.kind v.variables ys [] → ys ≡ []
    none_back [] m = refl
    none_back (y ∷ ys) m = absurd m

pub promise_kept : {A B : Type 0} (v : View A) (w : View B) (s : Search A) (t : Search B) → Promise v w s t
promise_kept {A} {B} v w s t a b h k q same hq kq =
    let x = traced v s q (answers h) (exhausted h) (subst (λ (o : Option Subject). ReachedFor v s o (answers h) (exhausted h)) hq (reached v a h)) in
    let y = traced w t q (answers k) (exhausted k) (subst (λ (o : Option Subject). ReachedFor w t o (answers k) (exhausted k)) kq (reached w b k)) in
    let y' = subst (λ (K : Kind). Traced K w.variables q t.steps (answers k) (exhausted k)) (sym same) y in
    record {
      alike = both_alike x y';
      left_ends = goes_no_further x y';
      right_ends = goes_no_further y' x;
      left_complete = is_complete x;
      right_complete = is_complete y;
      left_sound = is_sound x;
      right_sound = is_sound y;
      left_waits = waits v s q (answers h) (exhausted h) (subst (λ (o : Option Subject). ReachedFor v s o (answers h) (exhausted h)) hq (reached v a h));
      right_waits = waits w t q (answers k) (exhausted k) (subst (λ (o : Option Subject). ReachedFor w t o (answers k) (exhausted k)) kq (reached w b k));
      left_untouched = untouched v a h;
      right_untouched = untouched w b k;
    }

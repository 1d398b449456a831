-- What any history of calls leads to: a run of the machine, with the same answers. Assumes nothing.
use Rattle.std.proofs.Common.{◌≡◌, ℕ, ◌≤◌, Bool, true, List, [], ◌∷◌, ◌++◌, Some, None, Ok, Err, Option, Result, sym, refl, ◌∙◌, subst, inl, inr, append-nil, arith}
use Rattle.search.specs.declared.Search.{Search}
use Rattle.search.specs.declared.refusal.Refusal.{Refusal}
use Rattle.search.specs.declared.refusal.Halt.{Halt}
use Rattle.frontier.specs.declared.stop.Stop.{Stop}
use Rattle.search.specs.declared.Outcome.{Outcome}
use Rattle.search.specs.declared.Outcome.TheVariants.{Answer as Answered, Exhausted, Spent}
use Rattle.search.specs.declared.Ran.{Ran}
use Rattle.bank.specs.Kinds.{Kind, Assignment, solves}
use Rattle.book.specs.Language.{Rule, Rules}
use Rattle.machine.specs.Machine.{State, Entry}
use Rattle.machine.proofs.Determinism.{agree}
use Rattle.search.proofs.Refused.{refused_runs}
use Rattle.search.proofs.Runs.{same_stands}
use Rattle.bank.specs.Views.{View}
use Rattle.search.specs.Calls.{StandsFor, Same, RunHalted, RunDoes, TakeDoes, Advanced}
use Rattle.search.specs.History.{History, made, posed, ran, wrote, took, Subject, rule_of, Answer, subject, reply, answers, says_end, exhausted}

-- The answers at which runs stopped are those of the machine.
abbrev pub Matches : Kind → ℕ → List Answer → List Entry → Type 0
Matches K V [] [] = Unit {0}
Matches K V [] (e ∷ es) = ⊥
Matches K V (x ∷ xs) [] = ⊥
Matches K V (x ∷ xs) (e ∷ es) =
    ((x.step ≡ e.step) × (e.answer.n ≤ V) × ((σ : Assignment) → x.solutions σ ≡ solves K V e.answer.told σ)) × Matches K V xs es

pub matches_more :
    (K : Kind) (V : ℕ) (xs : List Answer) (es : List Entry) (ys : List Answer) (fs : List Entry)
    → Matches K V xs es → Matches K V ys fs → Matches K V (xs ++ ys) (es ++ fs)
matches_more K V [] [] ys fs h k = k
matches_more K V [] (e ∷ es) ys fs h k = absurd h
matches_more K V (x ∷ xs) [] ys fs h k = absurd h
matches_more K V (x ∷ xs) (e ∷ es) ys fs h k = (h.0, matches_more K V xs es ys fs h.1 k)

pub record Reached {S : Type 0} (v : View S) (s : Search S) (q : Subject) (xs : List Answer) (over : Bool) : Type 0 where
  pub state : State
  pub entries : List Entry
  pub stands : StandsFor v s q.rules (rule_of q) state entries
  pub matches : Matches v.kind v.variables xs entries
  pub ends : over ≡ true → state ≡ None

abbrev pub ReachedFor : {S : Type 0} → View S → Search S → Option Subject → List Answer → Bool → Type 0
ReachedFor v s None xs over = Unit {0}
ReachedFor v s (Some q) xs over = Reached v s q xs over

module _ {S : Type 0} (v : View S) where
  -- a refused call leaves all as it was
  same_state : (s t : Search S) (q : Option Subject) (xs : List Answer) (over : Bool) → Same v s t → ReachedFor v s q xs over → ReachedFor v t q xs over
  same_state s t None xs over e r = tt
  same_state s t (Some q) xs over e r = record {
    state = r.state;
    entries = r.entries;
    stands = same_stands v s t e q.rules (rule_of q) r.state r.entries r.stands;
    matches = r.matches;
    ends = r.ends;
  }

  -- a run that was made goes on from nothing to nothing
  still_none :
      {s t : Search S} {rules : Rules} {rule : Rule} {T T' : State} {es es' : List Entry}
      → StandsFor v s rules rule T es → StandsFor v t rules rule T' es' → s.steps ≤ t.steps → T ≡ None → T' ≡ None
  still_none {T = T} {T'} x y l e =
      let both = agree x.run y.run l in
      sym (both.same_end (both.no_more e)).0 ∙ e

  -- its answer, if any, is the machine's
  ran_on :
      (s t : Search S) (q : Subject) (xs : List Answer) (over : Bool) (k b : ℕ) (o : Outcome) → s.steps ≤ t.steps
      → (r : Reached v s q xs over) → Advanced v t q.rules (rule_of q) k b r.entries o
      → Reached v t q (xs ++ reply v t o) (says_end o over)
  ran_on s t q xs over k b (Answered x) l r a =
      let e = a.ends in
      record {
        state = a.state;
        entries = a.entries;
        stands = a.stands;
        matches = subst (λ (es : List Entry). Matches v.kind v.variables (xs ++ reply v t (Answered x)) es) (sym e.latest)
            (matches_more v.kind v.variables xs r.entries _ _ r.matches ((refl, e.stands.within, e.stands.store.solutions), tt));
        ends = λ y. still_none r.stands a.stands l (r.ends y);
      }
  ran_on s t q xs over k b Exhausted l r a =
      record {
        state = a.state;
        entries = a.entries;
        stands = a.stands;
        matches = subst (λ (es : List Entry). Matches v.kind v.variables (xs ++ []) es) (sym a.ends.no_answer)
            (subst (λ (ys : List Answer). Matches v.kind v.variables ys r.entries) (sym (append-nil xs)) r.matches);
        ends = λ y. a.ends.nothing;
      }
  ran_on s t q xs over k b Spent l r a =
      record {
        state = a.state;
        entries = a.entries;
        stands = a.stands;
        matches = subst (λ (es : List Entry). Matches v.kind v.variables (xs ++ []) es) (sym a.ends.no_answer)
            (subst (λ (ys : List Answer). Matches v.kind v.variables ys r.entries) (sym (append-nil xs)) r.matches);
        ends = λ y. still_none r.stands a.stands l (r.ends y);
      }

  ran_for :
      (s t : Search S) (q : Option Subject) (xs : List Answer) (over : Bool) (b : ℕ) (r : Ran) → RunDoes v s b (Ok r) t
      → ReachedFor v s q xs over → ReachedFor v t q (xs ++ reply v t r.outcome) (says_end r.outcome over)
  ran_for s t None xs over b r d h = tt
  ran_for s t (Some q) xs over b r d h =
      ran_on s t q xs over r.steps b r.outcome (let e = d.runs.steps in omega arith) h (d.leads q.rules (rule_of q) h.state h.entries h.stands)

  halted_for :
      (s t : Search S) (q : Option Subject) (xs : List Answer) (over : Bool) (b : ℕ) (h : Halt) (e : Stop) → RunHalted v s b h e t
      → ReachedFor v s q xs over → ReachedFor v t q xs over
  halted_for s t None xs over b k e d h = tt
  halted_for s t (Some q) xs over b k e d h =
      let a = d.leads q.rules (rule_of q) h.state h.entries h.stands in
      record {
        state = Some a.state;
        entries = h.entries;
        stands = a.stands;
        matches = h.matches;
        ends = λ y. still_none h.stands a.stands (let e = d.runs.steps in omega arith) (h.ends y);
      }

  refused_run :
      (s t : Search S) (q : Option Subject) (xs : List Answer) (over : Bool) (b : ℕ) (e : Refusal) → RunDoes v s b (Err e) t
      → ReachedFor v s q xs over → ReachedFor v t q xs over
  refused_run s t q xs over b e d h = elim (refused_runs v s t b e d) [
    | inl same ↦ same_state s t q xs over same h
    | inr k ↦ halted_for s t q xs over b k.0 k.1 k.2 h
  ]

  taken :
      (s t : Search S) (q : Option Subject) (xs : List Answer) (over : Bool) (res : Result (Unit {0}) Refusal) → TakeDoes v s res t
      → ReachedFor v s q xs over → ReachedFor v t q xs over
  taken s t None xs over res d h = tt
  taken s t (Some q) xs over (Ok u) d h =
      record {
        state = h.state;
        entries = h.entries;
        stands = d.stands q.rules (rule_of q) h.state h.entries h.stands;
        matches = h.matches;
        ends = h.ends;
      }
  taken s t (Some q) xs over (Err e) d h = same_state s t (Some q) xs over d.1 h

  pub reached : (bank : S) {s : Search S} (h : History v bank s) → ReachedFor v s (subject h) (answers h) (exhausted h)
  reached bank (made d) = tt
  reached bank (posed h book r (Ok u) d) =
      record {
        state = _;
        entries = [];
        stands = d.stands;
        matches = tt;
        ends = λ y. absurd (let z : ◌≡◌ {A = ℕ} 0 1 = cc in omega arith);
      }
  reached bank (posed {s} {t} h book r (Err e) d) = same_state s t (subject h) (answers h) (exhausted h) d.1 (reached bank h)
  reached bank (ran {s} {t} h b (Ok r) d) = ran_for s t (subject h) (answers h) (exhausted h) b r d (reached bank h)
  reached bank (ran {s} {t} h b (Err e) d) = refused_run s t (subject h) (answers h) (exhausted h) b e d (reached bank h)
  reached bank (wrote h before after res d) = reached bank h
  reached bank (took {s} {t} h res d) = taken s t (subject h) (answers h) (exhausted h) res d (reached bank h)

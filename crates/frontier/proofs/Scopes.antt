-- What a run reaches speaks only of variables that are there. Assumes nothing.
use Rattle.std.proofs.Common.{ℕ, suc, List, length, get_or, Some, None, Option, sym, refl, ◌∙◌, subst, arith}
use lib.ListN.{length-map}
use Rattle.book.specs.Language.{Each}
use Rattle.bank.specs.Kinds.{Kind}
use Rattle.book.specs.Language.{Rule, Rules, Fits, WellFormed, rule_at}
use Rattle.machine.proofs.Frames.{Below, below_later, below_push, frame_push, slots_below}
use Rattle.machine.specs.Theorems.{RuleFits}
use Rattle.machine.specs.Machine.{Frame, Answer, State, Tree as MachineTree, Step, upto, posed, Run, begin, next, Entry}
use Rattle.machine.specs.Machine.{step_tell_lem, step_fail, step_conj, step_disj, step_fresh, step_call, step_branch, step_chain}
use Rattle.book.proofs.Misfits.{each_append}
use Rattle.machine.proofs.Shapes.{s_tell}
use Rattle.machine.proofs.Waiting.{from}
use Rattle.machine.proofs.Rules.{own_rules_fit_lem}
use Rattle.machine.proofs.Values.{Local, leads_local, wide_local}
use Rattle.machine.proofs.Posed.{upto_length, upto_below, posed_local}
use Rattle.frontier.specs.Steps.{Least, Scoped}

-- the answer, if any, has the frame's variables and speaks of its own
abbrev pub Scope : Kind → Option Answer → Type 0
Scope K None = Unit {0}
Scope K (Some a) = Local K a

abbrev pub Reach : Option Answer → Frame → Type 0
Reach None e = Unit {0}
Reach (Some a) e = Below a.n e

abbrev pub ScopedLeft : Kind → Rules → State → Type 0
ScopedLeft K rules None = Unit {0}
ScopedLeft K rules (Some T) = Scoped K rules T

abbrev pub LeastLeft : State → Frame → Type 0
LeastLeft None e = Unit {0}
LeastLeft (Some T) e = Least T e

-- variables only come
pub step_least :
    {K : Kind} {rules : Rules} {T : MachineTree} {o : Option Answer} {S : State} (e : Frame)
    → Step K rules T o S → Least T e → Reach o e × LeastLeft S e
step_least e (step_tell_lem σ h) l = (l, tt)
step_least e (step_fail h) l = (tt, tt)
step_least e step_conj l = (tt, l)
step_least e step_disj l = (tt, (l, l))
step_least e (step_fresh {n = n}) l = (tt, below_later n (suc n) e (omega arith) l)
step_least e step_call l = (tt, l)
step_least e (step_branch {A' = None} st) l = ((step_least e st l.0).0, l.1)
step_least e (step_branch {A' = Some A} st) l = let i = step_least e st l.0 in (i.0, (l.1, i.1))
step_least e (step_chain {o = None} {A' = None} st) l = (tt, tt)
step_least e (step_chain {o = None} {A' = Some A} st) l = (tt, (step_least e st l).1)
step_least e (step_chain {o = Some a} {A' = None} st) l = (tt, (step_least e st l).0)
step_least e (step_chain {o = Some a} {A' = Some A} st) l = let i = step_least e st l in (tt, (i.0, i.1))

module _ (K : Kind) (rules : Rules) (wf : WellFormed rules) where
  pub step_scoped :
      {T : MachineTree} {o : Option Answer} {S : State}
      → Step K rules T o S → Scoped K rules T → Scope K o × ScopedLeft K rules S
  step_scoped (step_tell_lem {code = code} {k = k} {slots = slots} {f = f} {n = n} {told = told} {ch = ch} σ h) s =
      (leads_local K rules wf (s_tell {code = code} {k = k} {slots = slots}) f (from n told ch) (length f) s.0 refl s.1 s.2, tt)
  step_scoped (step_fail h) s = (tt, tt)
  step_scoped step_conj s = (tt, ((s.0.0, s.1, s.2), s.0.1, s.1))
  step_scoped step_disj s = (tt, ((s.0.0, s.1, s.2), (s.0.1, s.1, s.2)))
  step_scoped (step_fresh {g = g} {f = f} {n = n} {told = told} {ch = ch}) s =
      (tt, (subst (λ (p : ℕ). Fits rules p g) (sym (frame_push f n refl)) s.0, below_push n f s.1, wide_local K (from n told ch) s.2))
  step_scoped (step_call {r = r} {slots = slots} {f = f} {n = n}) s = (
    tt,
    (
      subst (λ (p : ℕ). Fits rules p (rule_at rules r).goal) (sym (length-map slots (λ s. get_or f s 0) ∙ s.0.1)) (own_rules_fit_lem rules wf r s.0.0),
      slots_below n f slots refl s.1 s.0.2,
      s.2,
    ),
  )
  step_scoped (step_branch {A' = None} st) s = ((step_scoped st s.0).0, s.1)
  step_scoped (step_branch {A' = Some A} st) s = let i = step_scoped st s.0 in (i.0, (s.1, i.1))
  step_scoped (step_chain {o = None} {A' = None} st) s = (tt, tt)
  step_scoped (step_chain {f = f} {o = None} {A' = Some A} st) s = (tt, ((step_scoped st s.0).1, s.1, (step_least f st s.2).1))
  step_scoped (step_chain {f = f} {o = Some a} {A' = None} st) s = (tt, (s.1, (step_least f st s.2).0, (step_scoped st s.0).0))
  step_scoped (step_chain {f = f} {o = Some a} {A' = Some A} st) s =
      let i = step_scoped st s.0 in
      let j = step_least f st s.2 in
      (tt, ((s.1, j.0, i.0), (i.1, s.1, j.1)))

  pub posed_scoped : (rule : Rule) → RuleFits rules rule → Scoped K rules (posed rule)
  posed_scoped rule fits =
      (subst (λ (p : ℕ). Fits rules p rule.goal) (sym (upto_length rule.params)) fits, upto_below rule.params, posed_local K rule.params)

  -- an answer of a run speaks of its own variables, and has the parameters among them
  abbrev pub Own : Rule → Entry → Type 0
  Own rule e = Local K e.answer × Below e.answer.n (upto rule.params)

  pub record Fine (rule : Rule) (S : State) (es : List Entry) : Type 0 where
    pub scoped : ScopedLeft K rules S
    pub least : LeastLeft S (upto rule.params)
    pub own : Each (Own rule) es

  pub run_fine : {rule : Rule} {t : ℕ} {S : State} {es : List Entry} → RuleFits rules rule → Run K rules rule t S es → Fine rule S es
  run_fine {rule} fits begin = record { scoped = posed_scoped rule fits; least = upto_below rule.params; own = tt }
  run_fine {rule} fits (next {o = None} r st) =
      let was = run_fine fits r in
      record { scoped = (step_scoped st was.scoped).1; least = (step_least (upto rule.params) st was.least).1; own = was.own }
  run_fine {rule} fits (next {es = es} {o = Some a} r st) =
      let was = run_fine fits r in
      let sc = step_scoped st was.scoped in
      let le = step_least (upto rule.params) st was.least in
      record { scoped = sc.1; least = le.1; own = each_append (Own rule) es _ was.own ((sc.0, le.0), tt) }

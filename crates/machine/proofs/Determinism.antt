-- Two runs agree as far as both go. Assumes nothing.
use Rattle.std.proofs.Common.{◌≡◌, ℕ, suc, ◌<◌, ◌≤◌, cond, leb, List, [], ◌∷◌, ◌++◌, Some, None, Option, sym, refl, ap, ◌∙◌, subst, ap₂, inl, inr, eq-or-lt_of_le, arith, le-leb}
use borrow.Author.Tests.{lt-leb}
use Rattle.bank.specs.Kinds.{Kind}
use Rattle.book.specs.Language.{Rule, Rules, Each}
use Rattle.machine.specs.Machine.{Answer, Tree, State, Step, Entry, Run, turn, taken_up, noted}
use Rattle.machine.specs.Machine.{step_tell_lem, step_fail, step_conj, step_disj, step_fresh, step_call, step_branch, step_chain, begin, next}
use Rattle.book.proofs.Misfits.{each_append}
use Rattle.machine.proofs.Lists.{each_map, some_not_none}
use Rattle.machine.specs.Theorems.{till, Agree, Deterministic, Dated}

-- a tree has one step
step_once :
    {K : Kind} {rules : Rules} {T : Tree} {o o' : Option Answer} {S S' : State}
    → Step K rules T o S → Step K rules T o' S' → (o ≡ o') × (S ≡ S')
step_once (step_tell_lem σ h) (step_tell_lem σ' h') = (refl, refl)
step_once (step_tell_lem σ h) (step_fail no_one) = absurd (no_one σ h)
step_once (step_fail no_one) (step_tell_lem σ h) = absurd (no_one σ h)
step_once (step_fail no_one) (step_fail no_one') = (refl, refl)
step_once step_conj step_conj = (refl, refl)
step_once step_disj step_disj = (refl, refl)
step_once step_fresh step_fresh = (refl, refl)
step_once step_call step_call = (refl, refl)
step_once (step_branch {B = B} a) (step_branch b) =
    let same = step_once a b in (same.0, ap (λ S. Some (turn B S)) same.1)
step_once (step_chain {g = g} {f = f} a) (step_chain b) =
    let same = step_once a b in (refl, ap₂ (λ o S. taken_up o S g f) same.0 same.1)

-- The answer came at one of the first t steps.
abbrev Made : ℕ → Entry → Type 0
Made t e = (1 ≤ e.step) × (e.step ≤ t)

later : (t : ℕ) (es : List Entry) → Each (Made t) es → Each (Made (suc t)) es
later t es h = each_map (Made t) (Made (suc t)) (λ e k. omega arith) es h

-- what came by step t is all that came, if nothing came later
till_all : (t : ℕ) (es : List Entry) → Each (Made t) es → till t es ≡ es
till_all t [] h = refl
till_all t (e ∷ es) h = rw (le-leb e.step t h.0.1) (ap {B = List Entry} (λ r. e ∷ r) (till_all t es h.1))

-- what came by step t stays when a later step is noted
till_noted : (t u : ℕ) → t < u → (es : List Entry) (o : Option Answer) → till t (noted es u o) ≡ till t es
till_noted t u h es None = refl
till_noted t u h es (Some a) = late es
  where
    late : (es : List Entry) → till t (es ++ (record { step = u; answer = a } ∷ [])) ≡ till t es
    late [] = rw (lt-leb u t h)
    late (e ∷ es) = ap (λ (r : List Entry). cond (leb e.step t) (e ∷ r) r) (late es)

module _ {K : Kind} {rules : Rules} {rule : Rule} where
  -- two runs with as many steps are at the same state with the same answers
  same_run :
      {t : ℕ} {S S' : State} {es es' : List Entry}
      → Run K rules rule t S es → Run K rules rule t S' es' → (S ≡ S') × (es ≡ es')
  same_run begin begin = (refl, refl)
  same_run (next {t = t} {T = T} {o = o} r s) (next {T = T'} {o = o'} {S = S'} r' s') =
      let before = same_run r r' in
      let e : T ≡ T' = cc before.0 in
      let now = step_once s (subst (λ X. Step K rules X o' S') (sym e) s') in
      (now.1, ap₂ (λ es o. noted es (suc t) o) before.1 now.0)

  -- each answer came at a step that was made
  steps_made : {t : ℕ} {S : State} {es : List Entry} → Run K rules rule t S es → Each (Made t) es
  steps_made begin = tt
  steps_made (next {t = t} {es = es} {o = None} r s) = later t es (steps_made r)
  steps_made (next {t = t} {es = es} {o = Some a} r s) = each_append (Made (suc t)) es _ (later t es (steps_made r)) ((omega arith, omega arith), tt)

  -- two runs with as many steps agree
  agree_same :
      {t u : ℕ} {S S' : State} {es es' : List Entry}
      → t ≡ u → Run K rules rule t S es → Run K rules rule u S' es' → Agree t u S S' es es'
  agree_same {t} {u} {S} {S'} {es} {es'} e r r' =
      let same = same_run (subst (λ n. Run K rules rule n S es) e r) r' in
      record {
        same_end = λ _. same;
        same_answers = same.1 ∙ rw e (sym (till_all u es' (steps_made r')));
        no_more = λ _. e;
      }

  -- two runs agree: the longer one takes its last step past the end of the shorter, or they are as long
  pub agree :
      {t u : ℕ} {S S' : State} {es es' : List Entry}
      → Run K rules rule t S es → Run K rules rule u S' es' → t ≤ u → Agree t u S S' es es'
  agree r begin h = agree_same (omega arith) r begin
  agree {t} {S = S} r (next {t = u} {T = T} {es = es'} {o = o} r' s) h =
      let ih : t ≤ u → Agree t u S (Some T) _ es' = λ l. agree r r' l in
      elim (eq-or-lt_of_le h) [
        | inl e ↦ agree_same e r (next r' s)
        | inr l ↦
            let was = ih (omega arith) in
            record {
              same_end = λ e. absurd (omega arith);
              same_answers = was.same_answers ∙ sym (till_noted t (suc u) l es' o);
              no_more = λ e. absurd (some_not_none T (sym (was.same_end (was.no_more e)).0 ∙ e));
            }
      ]

pub deterministic : Deterministic
deterministic K rules rule t t' S S' es es' r r' h = agree r r' h

pub dated : Dated
dated K rules rule t S es r = steps_made r

-- An answer that waits in the posed rule and has a solution is found once, and within the steps that it waits for at most. Assumes nothing.
use Rattle.std.proofs.Common.{◌≡◌, ℕ, zero, suc, ◌+◌, ◌≤◌, ◌≢◌, ◌⊎◌, List, [], ◌∷◌, ◌++◌, map, Some, None, Option, sym, refl, ap, ◌∙◌, subst, inl, inr, append_assoc, arith}
use Rattle.bank.specs.Kinds.{Value, Kind, Assignment, Solves}
use Rattle.book.specs.Language.{Rule, Rules, Each}
use Rattle.machine.specs.Machine.{Side, Answer, Tree, State, Step, Entry, Run, begin, next, posed, upto, noted}
use Rattle.machine.specs.Derivations.{weight, choices, solutions, Occurs}
use Rattle.machine.specs.Theorems.{FoundOnce, Complete}
use Rattle.book.proofs.Misfits.{each_append}
use Rattle.machine.proofs.Lists.{some_not_none}
use Rattle.machine.proofs.Shapes.{leads, leads_choices}
use Rattle.machine.proofs.Waiting.{from, Waits, at_leaf, Gives, given, Remains, still, waited_given, waited_left, waits_positive, nearer}
use Rattle.machine.proofs.Separate.{Apart, SeparateLeft, step_apart, step_separate}
use Rattle.machine.proofs.Frames.{agree_map}
use Rattle.machine.proofs.Values.{shape, weight_of_shape, choices_of_shape, place}
use Rattle.machine.proofs.Posed.{upto_length, upto_below, upto_values, in_order, posed_local, posed_solves}

-- No entry has the choices.
abbrev NoneHas : List Side → List Entry → Type 0
NoneHas ch es = Each (λ e. e.answer.choices ≢ ch) es

-- Where a run stands with an answer that is to come by step w: it waits, or it was found.
data Track (rules : Rules) (a : Answer) (w t : ℕ) : State → List Entry → Type 0 where
  waiting : {T : Tree} {es : List Entry} {k : ℕ} → Waits rules T a k → k + t ≤ w → NoneHas a.choices es → Track rules a w t (Some T) es
  found :
      {S : State} {es : List Entry} (before : List Entry) (s : ℕ) (after : List Entry)
      → es ≡ before ++ (record { step = s; answer = a } ∷ after) → NoneHas a.choices before → NoneHas a.choices after → s ≤ w
      → ((b : Answer) (v : ℕ) → Remains rules S b v → b.choices ≢ a.choices) → Track rules a w t S es

-- answers that are apart have other choices
apart_differ : (a b : Answer) → Apart a b → a.choices ≢ b.choices
apart_differ a b h e = h [] [] (ap (λ (l : List Side). l ++ []) e)

run_separate : {K : Kind} {rules : Rules} {rule : Rule} {t : ℕ} {S : State} {es : List Entry} → Run K rules rule t S es → SeparateLeft rules S
run_separate begin = tt
run_separate (next r st) = step_separate (run_separate r) st

module _ (K : Kind) (rules : Rules) (a : Answer) (w : ℕ) (σ : Assignment) (sol : Solves K a.n a.told σ) where
  -- one step of a run, for an answer that waits
  track_waiting :
      (t : ℕ) {k : ℕ} {T : Tree} (es : List Entry) (o : Option Answer) {S : State}
      → SeparateLeft rules (Some T) → Step K rules T o S → suc k + t ≤ w → NoneHas a.choices es
      → Gives o a ⊎ Remains rules S a k → Track rules a w (suc t) S (noted es (suc t) o)
  track_waiting t es (Some b) sep st l no_one (inl (given e)) =
      found es (suc t) [] (ap (λ (b : Answer). es ++ (record { step = suc t; answer = b } ∷ [])) e) no_one tt (omega arith)
      (λ b v m c. apart_differ a b (step_apart sep (given e) st m) (sym c))
  track_waiting t es None sep st l no_one (inl y) = elim y [ ]
  track_waiting t es None sep st l no_one (inr (still i)) = waiting i (omega arith) no_one
  track_waiting t es (Some b) sep st l no_one (inr (still i)) =
      waiting i (omega arith) (each_append (λ e. e.answer.choices ≢ a.choices) es _ no_one (apart_differ b a (step_apart sep (given refl) st (still i)), tt))

  -- one step of a run
  track_step :
      {t : ℕ} {T : Tree} {es : List Entry} (o : Option Answer) {S : State}
      → SeparateLeft rules (Some T) → Step K rules T o S → Track rules a w t (Some T) es → Track rules a w (suc t) S (noted es (suc t) o)
  track_step o sep st (waiting {k = zero} i l no_one) = absurd (let p = waits_positive i in omega arith)
  track_step {t} {es = es} o sep st (waiting {k = suc k} i l no_one) = track_waiting t es o sep st l no_one (nearer σ st i sol)
  track_step None sep st (found before s after e nb na l rest) =
      found before s after e nb na l (λ b v m. rest b _ (still (waited_left st m).1))
  track_step {t} (Some b) sep st (found before s after e nb na l rest) =
      let new : Entry = record { step = suc t; answer = b } in
      found before s (after ++ (new ∷ [])) (ap (λ (es : List Entry). es ++ (new ∷ [])) e ∙ append_assoc before _ _) nb
      (each_append (λ e. e.answer.choices ≢ a.choices) after _ na (rest b _ (still (waited_given (given refl) st).1), tt)) l
      (λ b v m. rest b _ (still (waited_left st m).1))

  track :
      {rule : Rule} {t : ℕ} {S : State} {es : List Entry}
      → Waits rules (posed rule) a w → Run K rules rule t S es → Track rules a w t S es
  track i begin = waiting i (omega arith) tt
  track i (next {o = o} r st) = track_step o (run_separate r) st (track i r)

-- an answer that waits no more was found
found_in_time :
    {rules : Rules} {a : Answer} {w t : ℕ} {S : State} {es : List Entry} (K : Kind) (rule : Rule) (ch : List Side) (vs : List Value)
    → Track rules a w t S es → (w ≤ t) ⊎ (S ≡ None) → a.choices ≡ ch → Occurs rule.params (solutions K a) vs → FoundOnce K rule ch w vs es
found_in_time K rule ch vs (waiting i l no_one) (inl h) c occ = absurd (let p = waits_positive i in omega arith)
found_in_time K rule ch vs (waiting {T = T} i l no_one) (inr e) c occ = absurd (some_not_none T e)
found_in_time {a = a} K rule ch vs (found before s after e nb na l rest) h c occ =
    record {
      before = before;
      found = record { step = s; answer = a };
      after = after;
      place = e;
      its_choices = c;
      none_before = subst (λ (x : List Side). NoneHas x before) c nb;
      none_after = subst (λ (x : List Side). NoneHas x after) c na;
      in_time = l;
      occurs = occ;
    }

pub complete : Complete
complete K rules rule wf fits vs pos D t S es r enough =
    let p = rule.params in
    let start = from p [] [] in
    let s = shape D in
    let values : map (in_order vs) (upto p) ≡ vs = subst (λ (q : ℕ). map (in_order vs) (upto q) ≡ vs) pos.0 (upto_values vs) in
    let put = place K rules wf D (upto p) start p (in_order vs) fits (upto_length p) (upto_below p) values (posed_local K p) (posed_solves K vs p pos.1 (let l = pos.0 in omega arith)) in
    let a = leads s (upto p) start in
    found_in_time K rule (choices D) vs
    (track K rules a (weight D) put.0 put.2 (at_leaf s refl (let e = weight_of_shape D in omega arith)) r)
    enough
    (leads_choices s (upto p) start ∙ choices_of_shape D)
    (put.0, put.2, agree_map p put.0 (in_order vs) put.1 (upto p) (upto_below p) ∙ values)

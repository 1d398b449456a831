-- Which lines pass: those that say statements which may follow one another. Assumes nothing.
--
--   saids     the statements of some entries
--   Says      each line says the statement at its place
--   Goes      what may follow a state
use Rattle.std.proofs.Common.{◌≡◌, ℕ, ◌+◌, ◌<◌, Bool, true, false, cond, ltb, List, [], ◌∷◌, ◌++◌, map, Some, None, Option, sym, refl, ap, ◌∙◌, subst, append_assoc, append-nil, add-one, arith}
use Rattle.std.proofs.lemmas.List.{map_push}
use Rattle.std.proofs.lemmas.Bool.{ltb-true, lt-ltb, cond-true}
use Rattle.fields.specs.Cutting.{fields}
use Rattle.line.specs.Reading.{Outcome, said, wrong, outcome}
use Rattle.line.specs.Statements.{Statement, a_rule, a_tell, an_and, an_or, a_new, a_call}
use Rattle.book.specs.declared.refusal.Cause.{Cause}
use Rattle.book.specs.declared.refusal.Cause.TheVariants.{TooManyRules, TooManyGoals, TooManySlots}
use Rattle.book.specs.Language.{Each}
use Rattle.book.specs.Reading.{cause_of, field_of, Entry, State, Placed, placed, barred, stray, goal_placed, slots_placed, rule_placed, place_rule_lem, place_in, place_goal_lem, place, Checked, passed, stopped, closed, check}
use Rattle.book.proofs.Polish.{Awaits}

abbrev pub saids : List Entry → List Statement
saids es = map (λ e. e.says) es

abbrev pub Says : List (List ℕ) → List Statement → Type 0
Says [] [] = Unit {0}
Says [] (st ∷ sts) = ⊥
Says (l ∷ ls) [] = ⊥
Says (l ∷ ls) (st ∷ sts) = (outcome 0 (fields l) ≡ said st) × Says ls sts

abbrev pub Goes : State → List Statement → Type 0
Goes s sts = Awaits s.rules s.goals s.awaited sts

-- a test that bars, and what it lets through
pub not_barred : (b : Bool) (q : Placed) (c : Cause) (n : ℕ) (t : State) → cond b q (barred c n) ≡ placed t → (b ≡ true) × (q ≡ placed t)
not_barred true q c n t e = (refl, e)
not_barred false q c n t e = absurd (let z : ◌≡◌ {A = ℕ} 0 1 = cc in omega arith)

-- no slot is astray exactly if each is in scope
none_some : (n : ℕ) → ◌≡◌ {A = Option ℕ} (Some n) None → ⊥
none_some n e = let z : ◌≡◌ {A = ℕ} 0 1 = cc in omega arith

stray_cons : (b : Bool) (o : Option ℕ) (n : ℕ) → cond b o (Some n) ≡ None → (b ≡ true) × (o ≡ None)
stray_cons true o n e = (refl, e)
stray_cons false o n e = absurd (none_some n e)

pub none_stray : (p n : ℕ) (slots : List ℕ) → stray p n slots ≡ None → Each (λ s. s < p) slots
none_stray p n [] e = tt
none_stray p n (x ∷ xs) e = let h = stray_cons (ltb x p) (stray p (n + 1) xs) (n + 1) e in (ltb-true x p h.0, none_stray p (n + 1) xs h.1)

pub stray_none : (p n : ℕ) (slots : List ℕ) → Each (λ s. s < p) slots → stray p n slots ≡ None
stray_none p n [] i = refl
stray_none p n (x ∷ xs) i = cond-true (ltb x p) (stray p (n + 1) xs) (Some (n + 1)) (lt-ltb x p i.0) ∙ stray_none p (n + 1) xs i.1

-- one line more behind those of a state where these scopes are awaited
pub record Step (s : State) (ps : List ℕ) (st : Statement) (t : State) : Type 0 where
  pub adds : saids t.entries ≡ saids s.entries ++ st ∷ []
  pub goes : (sts : List Statement) → Goes t sts → Awaits s.rules s.goals ps (st ∷ sts)

-- the state behind a goal line
abbrev goal_next : State → Statement → ℕ → List ℕ → State
goal_next s st p ps = record { entries = s.entries ++ record { says = st; scope = p } ∷ []; rules = s.rules; goals = s.goals + 1; awaited = ps }

-- the state behind a rule line
abbrev rule_next : State → ℕ → State
rule_next s p = record { entries = s.entries ++ record { says = a_rule p; scope = p } ∷ []; rules = s.rules + 1; goals = s.goals; awaited = p ∷ [] }

saids_push : (es : List Entry) (e : Entry) → saids (es ++ e ∷ []) ≡ saids es ++ e.says ∷ []
saids_push es e = map_push (λ x. x.says) es e

step_goal : (s : State) (st : Statement) (p : ℕ) (ps qs : List ℕ) (t : State) → goal_placed s st p qs ≡ placed t → ((sts : List Statement) → Awaits s.rules (s.goals + 1) qs sts → Awaits s.rules s.goals (p ∷ ps) (st ∷ sts)) → Step s (p ∷ ps) st t
step_goal s st p ps qs t e f = let q : goal_next s st p qs ≡ t = cc in subst (Step s (p ∷ ps) st) q (record { adds = saids_push s.entries (record { says = st; scope = p }); goes = f })

pub slots_only : (s : State) (st : Statement) (p : ℕ) (ps : List ℕ) (o : Option ℕ) (t : State) → slots_placed s st p ps o ≡ placed t → (o ≡ None) × (goal_placed s st p ps ≡ placed t)
slots_only s st p ps None t e = (refl, e)
slots_only s st p ps (Some n) t e = absurd (let z : ◌≡◌ {A = ℕ} 0 1 = cc in omega arith)

step_in : (s : State) (st : Statement) (p : ℕ) (ps : List ℕ) (t : State) → s.goals < 1024 → place_in s st p ps ≡ placed t → Step s (p ∷ ps) st t
step_in s (a_rule q) p ps t l e = absurd (let z : ◌≡◌ {A = ℕ} 0 1 = cc in omega arith)
step_in s (a_tell code k slots) p ps t l e =
    let h = slots_only s (a_tell code k slots) p ps (stray p 3 slots) t e in
    step_goal s (a_tell code k slots) p ps ps t h.1 (λ sts a. (l, none_stray p 3 slots h.0, a))
step_in s an_and p ps t l e = step_goal s an_and p ps (p ∷ p ∷ ps) t e (λ sts a. (l, a))
step_in s an_or p ps t l e = step_goal s an_or p ps (p ∷ p ∷ ps) t e (λ sts a. (l, a))
step_in s a_new p ps t l e =
    let h = not_barred (ltb p 16) (goal_placed s a_new p ((p + 1) ∷ ps)) TooManySlots 1 t e in
    step_goal s a_new p ps ((p + 1) ∷ ps) t h.1 (λ sts a. (l, ltb-true p 16 h.0, subst (λ q. Awaits s.rules (s.goals + 1) (q ∷ ps) sts) (add-one p) a))
step_in s (a_call r slots) p ps t l e =
    let h = slots_only s (a_call r slots) p ps (stray p 2 slots) t e in
    step_goal s (a_call r slots) p ps ps t h.1 (λ sts a. (l, none_stray p 2 slots h.0, a))

step_placed : (s : State) (st : Statement) (ps : List ℕ) (t : State) → place_goal_lem s st ps ≡ placed t → Step s ps st t
step_placed s st [] t e = absurd (let z : ◌≡◌ {A = ℕ} 0 1 = cc in omega arith)
step_placed s st (p ∷ ps) t e =
    let h = not_barred (ltb s.goals 1024) (place_in s st p ps) TooManyGoals 1 t e in
    step_in s st p ps t (ltb-true s.goals 1024 h.0) h.1

step_rule : (s : State) (p : ℕ) (ps : List ℕ) (t : State) → place_rule_lem s p ps ≡ placed t → Step s ps (a_rule p) t
step_rule s p [] t e =
    let h = not_barred (ltb s.rules 64) (rule_placed s p) TooManyRules 1 t e in
    let q : rule_next s p ≡ t = cc h.1 in
    subst (Step s [] (a_rule p)) q (record { adds = saids_push s.entries (record { says = a_rule p; scope = p }); goes = λ sts a. (ltb-true s.rules 64 h.0, a) })
step_rule s p (q ∷ ps) t e = absurd (let z : ◌≡◌ {A = ℕ} 0 1 = cc in omega arith)

-- what is placed is one step
pub step : (s : State) (st : Statement) (t : State) → place s st ≡ placed t → Step s s.awaited st t
step s (a_rule p) t e = step_rule s p s.awaited t e
step s (a_tell code k slots) t e = step_placed s (a_tell code k slots) s.awaited t e
step s an_and t e = step_placed s an_and s.awaited t e
step s an_or t e = step_placed s an_or s.awaited t e
step s a_new t e = step_placed s a_new s.awaited t e
step s (a_call r slots) t e = step_placed s (a_call r slots) s.awaited t e

-- what is checked behind a line that was placed or barred
abbrev pub onward : ℕ → List (List ℕ) → Placed → Checked
onward line ls (barred cause field) = stopped cause line field
onward line ls (placed t) = check (line + 1) t ls

-- the same behind a line's outcome
abbrev pub behind : ℕ → State → List (List ℕ) → Outcome → Checked
behind line s ls (wrong fault) = stopped (cause_of fault) line (field_of fault)
behind line s ls (said st) = onward line ls (place s st)

onward_is : (line : ℕ) (ls : List (List ℕ)) (q : Placed) → elim q as (λ _. Checked) [ barred cause field ↦ stopped cause line field | placed t ↦ check (line + 1) t ls ] ≡ onward line ls q
onward_is line ls (barred cause field) = refl
onward_is line ls (placed t) = refl

behind_is : (line : ℕ) (s : State) (ls : List (List ℕ)) (o : Outcome) → elim o as (λ _. Checked) [ wrong fault ↦ stopped (cause_of fault) line (field_of fault) | said st ↦ elim (place s st) as (λ _. Checked) [ barred cause field ↦ stopped cause line field | placed t ↦ check (line + 1) t ls ] ] ≡ behind line s ls o
behind_is line s ls (wrong fault) = refl
behind_is line s ls (said st) = onward_is line ls (place s st)

pub check_cons : (line : ℕ) (s : State) (l : List ℕ) (ls : List (List ℕ)) → check line s (l ∷ ls) ≡ behind line s ls (outcome 0 (fields l))
check_cons line s l ls = behind_is line s ls (outcome 0 (fields l))

-- lines that pass behind a state, and the statements that they say
pub record Passes (s : State) (ls : List (List ℕ)) (es : List Entry) (sts : List Statement) : Type 0 where
  pub says : Says ls sts
  pub goes : Goes s sts
  pub adds : saids es ≡ saids s.entries ++ sts

passes_none : (line : ℕ) (s : State) (ps : List ℕ) (es : List Entry) → closed line s ps ≡ passed es → Awaits s.rules s.goals ps [] × (saids es ≡ saids s.entries ++ [])
passes_none line s [] es e = let q : s.entries ≡ es = cc in (tt, ap saids (sym q) ∙ sym (append-nil (saids s.entries)))
passes_none line s (p ∷ ps) es e = absurd (let z : ◌≡◌ {A = ℕ} 0 1 = cc in omega arith)

-- the same of the lines behind any state
abbrev pub AllPass : ℕ → List (List ℕ) → List Entry → Type 0
AllPass line ls es = (t : State) → check line t ls ≡ passed es → (sts : List Statement) × Passes t ls es sts

passing_put : (line : ℕ) (s : State) (l : List ℕ) (ls : List (List ℕ)) (es : List Entry) → AllPass (line + 1) ls es → (st : Statement) → outcome 0 (fields l) ≡ said st → (q : Placed) → place s st ≡ q → onward line ls q ≡ passed es → (sts : List Statement) × Passes s (l ∷ ls) es sts
passing_put line s l ls es f st o (barred cause field) r x = absurd (let z : ◌≡◌ {A = ℕ} 0 1 = cc in omega arith)
passing_put line s l ls es f st o (placed t) r x =
    let h = f t x in
    let k = step s st t r in
    (st ∷ h.0, record { says = (o, h.1.says); goes = k.goes h.0 h.1.goes; adds = h.1.adds ∙ ap (λ y. y ++ h.0) k.adds ∙ append_assoc (saids s.entries) (st ∷ []) h.0 })

passing_heard : (line : ℕ) (s : State) (l : List ℕ) (ls : List (List ℕ)) (es : List Entry) → AllPass (line + 1) ls es → (o : Outcome) → outcome 0 (fields l) ≡ o → behind line s ls o ≡ passed es → (sts : List Statement) × Passes s (l ∷ ls) es sts
passing_heard line s l ls es f (wrong fault) r x = absurd (let z : ◌≡◌ {A = ℕ} 0 1 = cc in omega arith)
passing_heard line s l ls es f (said st) r x = passing_put line s l ls es f st r (place s st) refl x

-- lines that passed say statements that may follow one another
pub passing : (ls : List (List ℕ)) (line : ℕ) (s : State) (es : List Entry) → check line s ls ≡ passed es → (sts : List Statement) × Passes s ls es sts
passing [] line s es e = let h = passes_none line s s.awaited es e in ([], record { says = tt; goes = h.0; adds = h.1 })
passing (l ∷ ls) line s es e = passing_heard line s l ls es (λ t. passing ls (line + 1) t es) (outcome 0 (fields l)) refl (sym (check_cons line s l ls) ∙ e)

-- one line more that may stand behind a state, with what is then left
pub record Next (s : State) (st : Statement) (sts : List Statement) (q : Placed) (t : State) : Type 0 where
  pub is : q ≡ placed t
  pub adds : saids t.entries ≡ saids s.entries ++ st ∷ []
  pub goes : Goes t sts

next_goal_lem : (s : State) (st : Statement) (p : ℕ) (qs : List ℕ) (sts : List Statement) (q : Placed) → q ≡ goal_placed s st p qs → Awaits s.rules (s.goals + 1) qs sts → Next s st sts q (goal_next s st p qs)
next_goal_lem s st p qs sts q e a = record { is = e; adds = saids_push s.entries (record { says = st; scope = p }); goes = a }

next_in : (s : State) (st : Statement) (p : ℕ) (ps : List ℕ) (sts : List Statement) → Awaits s.rules s.goals (p ∷ ps) (st ∷ sts) → (s.goals < 1024) × ((t : State) × Next s st sts (place_in s st p ps) t)
next_in s (a_rule q) p ps sts a = elim a [ ]
next_in s (a_tell code k slots) p ps sts a = (a.0, (_, next_goal_lem s (a_tell code k slots) p ps sts _ (ap (slots_placed s (a_tell code k slots) p ps) (stray_none p 3 slots a.1)) a.2))
next_in s an_and p ps sts a = (a.0, (_, next_goal_lem s an_and p (p ∷ p ∷ ps) sts _ refl a.1))
next_in s an_or p ps sts a = (a.0, (_, next_goal_lem s an_or p (p ∷ p ∷ ps) sts _ refl a.1))
next_in s a_new p ps sts a = (a.0, (_, next_goal_lem s a_new p ((p + 1) ∷ ps) sts _ (cond-true (ltb p 16) _ _ (lt-ltb p 16 a.1)) (subst (λ q. Awaits s.rules (s.goals + 1) (q ∷ ps) sts) (sym (add-one p)) a.2)))
next_in s (a_call r slots) p ps sts a = (a.0, (_, next_goal_lem s (a_call r slots) p ps sts _ (ap (slots_placed s (a_call r slots) p ps) (stray_none p 2 slots a.1)) a.2))

next_through : (s : State) (st : Statement) (sts : List Statement) (b : Bool) (q w : Placed) → b ≡ true → (t : State) × Next s st sts q t → (t : State) × Next s st sts (cond b q w) t
next_through s st sts b q w e h = (h.0, record { is = cond-true b q w e ∙ h.1.is; adds = h.1.adds; goes = h.1.goes })

next_placed : (s : State) (st : Statement) (sts : List Statement) → (Awaits s.rules s.goals [] (st ∷ sts) → ⊥) → (ps : List ℕ) → Awaits s.rules s.goals ps (st ∷ sts) → (t : State) × Next s st sts (place_goal_lem s st ps) t
next_placed s st sts never [] a = absurd (never a)
next_placed s st sts never (p ∷ ps) a =
    let h = next_in s st p ps sts a in
    next_through s st sts (ltb s.goals 1024) (place_in s st p ps) (barred TooManyGoals 1) (lt-ltb s.goals 1024 h.0) h.1

next_rule : (s : State) (p : ℕ) (sts : List Statement) (ps : List ℕ) → Awaits s.rules s.goals ps (a_rule p ∷ sts) → (t : State) × Next s (a_rule p) sts (place_rule_lem s p ps) t
next_rule s p sts [] a =
    next_through s (a_rule p) sts (ltb s.rules 64) (rule_placed s p) (barred TooManyRules 1) (lt-ltb s.rules 64 a.0)
    (rule_next s p, record { is = refl; adds = saids_push s.entries (record { says = a_rule p; scope = p }); goes = a.1 })
next_rule s p sts (q ∷ ps) a = elim a [ ]

-- a statement that may follow is placed
pub next : (s : State) (st : Statement) (sts : List Statement) → Goes s (st ∷ sts) → (t : State) × Next s st sts (place s st) t
next s (a_rule p) sts a = next_rule s p sts s.awaited a
next s (a_tell code k slots) sts a = next_placed s (a_tell code k slots) sts (λ x. x) s.awaited a
next s an_and sts a = next_placed s an_and sts (λ x. x) s.awaited a
next s an_or sts a = next_placed s an_or sts (λ x. x) s.awaited a
next s a_new sts a = next_placed s a_new sts (λ x. x) s.awaited a
next s (a_call r slots) sts a = next_placed s (a_call r slots) sts (λ x. x) s.awaited a

closes : (line : ℕ) (s : State) (ps : List ℕ) → Awaits s.rules s.goals ps [] → closed line s ps ≡ passed s.entries
closes line s [] a = refl
closes line s (p ∷ ps) a = elim a [ ]

-- lines that say statements which may follow one another pass
pub passes : (ls : List (List ℕ)) (sts : List Statement) (line : ℕ) (s : State) → Says ls sts → Goes s sts → (es : List Entry) × (check line s ls ≡ passed es) × (saids es ≡ saids s.entries ++ sts)
passes [] [] line s o a = (s.entries, closes line s s.awaited a, sym (append-nil (saids s.entries)))
passes [] (st ∷ sts) line s o a = elim o [ ]
passes (l ∷ ls) [] line s o a = elim o [ ]
passes (l ∷ ls) (st ∷ sts) line s o a =
    let k = next s st sts a in
    let h = passes ls sts (line + 1) k.0 o.1 k.1.goes in
    (h.0, check_cons line s l ls ∙ ap (behind line s ls) o.0 ∙ ap (onward line ls) k.1.is ∙ h.1, h.2 ∙ ap (λ y. y ++ sts) k.1.adds ∙ append_assoc (saids s.entries) (st ∷ []) sts)

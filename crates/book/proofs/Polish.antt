-- The rules that lines make, and the lines that rules make: each gives the other back. Assumes nothing.
--
--   grown      the rules and goals that statements make, from the last up
--   InScope    a goal names only slots in scope, and has no more than 16 of them anywhere
--   Awaits     statements that may follow where so many rules and goals stand and these scopes are awaited
--   flat       the lines of some goals in order
--   Grown      what statements make is written by them again, in scope and within the limits
use Rattle.std.proofs.Common.{◌≡◌, ℕ, suc, ◌+◌, ◌<◌, ◌≤◌, List, [], ◌∷◌, ◌++◌, length, ℤ, sym, refl, ap, ◌∙◌, subst, append_assoc, append-nil, arith}
use Rattle.line.specs.Statements.{Statement, a_rule, a_tell, an_and, an_or, a_new, a_call}
use Rattle.book.specs.Language.{Goal, tell, conj, disj, fresh, call, Rule, Rules, size, total, Each}
use Rattle.book.specs.Listing.{goal_lines, listing}
use Rattle.book.specs.Reading.{Forest, planted}

abbrev pub grown : List Statement → Forest
grown [] = record { goals = []; rules = [] }
grown (st ∷ sts) = planted st (grown sts)

abbrev pub InScope : ℕ → Goal → Type 0
InScope p (tell code k slots) = Each (λ s. s < p) slots
InScope p (conj g h) = InScope p g × InScope p h
InScope p (disj g h) = InScope p g × InScope p h
InScope p (fresh g) = (p < 16) × InScope (suc p) g
InScope p (call r slots) = Each (λ s. s < p) slots

abbrev pub RuleInScope : Rule → Type 0
RuleInScope r = InScope r.params r.goal

abbrev pub Awaits : ℕ → ℕ → List ℕ → List Statement → Type 0
Awaits rules goals [] [] = Unit {0}
Awaits rules goals [] (a_rule p ∷ sts) = (rules < 64) × Awaits (rules + 1) goals (p ∷ []) sts
Awaits rules goals [] (a_tell code k slots ∷ sts) = ⊥
Awaits rules goals [] (an_and ∷ sts) = ⊥
Awaits rules goals [] (an_or ∷ sts) = ⊥
Awaits rules goals [] (a_new ∷ sts) = ⊥
Awaits rules goals [] (a_call r slots ∷ sts) = ⊥
Awaits rules goals (p ∷ ps) [] = ⊥
Awaits rules goals (p ∷ ps) (a_rule q ∷ sts) = ⊥
Awaits rules goals (p ∷ ps) (a_tell code k slots ∷ sts) = (goals < 1024) × Each (λ s. s < p) slots × Awaits rules (goals + 1) ps sts
Awaits rules goals (p ∷ ps) (an_and ∷ sts) = (goals < 1024) × Awaits rules (goals + 1) (p ∷ p ∷ ps) sts
Awaits rules goals (p ∷ ps) (an_or ∷ sts) = (goals < 1024) × Awaits rules (goals + 1) (p ∷ p ∷ ps) sts
Awaits rules goals (p ∷ ps) (a_new ∷ sts) = (goals < 1024) × (p < 16) × Awaits rules (goals + 1) (suc p ∷ ps) sts
Awaits rules goals (p ∷ ps) (a_call r slots ∷ sts) = (goals < 1024) × Each (λ s. s < p) slots × Awaits rules (goals + 1) ps sts

-- a goal in front of what some lines make
abbrev ahead : Goal → Forest → Forest
ahead g f = record { goals = g ∷ f.goals; rules = f.rules }

-- a goal's lines make the goal
pub grown_goal : (g : Goal) (sts : List Statement) → grown (goal_lines g ++ sts) ≡ record { goals = g ∷ (grown sts).goals; rules = (grown sts).rules }
grown_goal (tell code k slots) sts = refl
grown_goal (conj g h) sts = ap (λ l. planted an_and (grown l)) (append_assoc (goal_lines g) (goal_lines h) sts) ∙ ap (planted an_and) (grown_goal g (goal_lines h ++ sts) ∙ ap (ahead g) (grown_goal h sts))
grown_goal (disj g h) sts = ap (λ l. planted an_or (grown l)) (append_assoc (goal_lines g) (goal_lines h) sts) ∙ ap (planted an_or) (grown_goal g (goal_lines h ++ sts) ∙ ap (ahead g) (grown_goal h sts))
grown_goal (fresh g) sts = ap (planted a_new) (grown_goal g sts)
grown_goal (call r slots) sts = refl

-- a book's lines make the book
pub grown_listing : (rules : Rules) → grown (listing rules) ≡ record { goals = []; rules = rules }
grown_listing [] = refl
grown_listing (r ∷ rs) = ap (planted (a_rule r.params)) (grown_goal r.goal (listing rs) ∙ ap (ahead r.goal) (grown_listing rs))

-- a goal in scope may stand where it is awaited
pub awaits_goal : (g : Goal) (rules goals p : ℕ) (ps : List ℕ) (sts : List Statement) → InScope p g → goals + size g ≤ 1024 → Awaits rules (goals + size g) ps sts → Awaits rules goals (p ∷ ps) (goal_lines g ++ sts)
awaits_goal (tell code k slots) rules goals p ps sts i l a = (omega arith, i, a)
awaits_goal (conj g h) rules goals p ps sts i l a = (
  omega arith,
  subst (Awaits rules (goals + 1) (p ∷ p ∷ ps)) (sym (append_assoc (goal_lines g) (goal_lines h) sts))
      (awaits_goal g rules (goals + 1) p (p ∷ ps) (goal_lines h ++ sts) i.0 (omega arith)
      (awaits_goal h rules (goals + 1 + size g) p ps sts i.1 (omega arith)
      (let e : goals + (size g + size h + 1) ≡ goals + 1 + size g + size h = omega arith in subst (λ n. Awaits rules n ps sts) e a))),
)
awaits_goal (disj g h) rules goals p ps sts i l a = (
  omega arith,
  subst (Awaits rules (goals + 1) (p ∷ p ∷ ps)) (sym (append_assoc (goal_lines g) (goal_lines h) sts))
      (awaits_goal g rules (goals + 1) p (p ∷ ps) (goal_lines h ++ sts) i.0 (omega arith)
      (awaits_goal h rules (goals + 1 + size g) p ps sts i.1 (omega arith)
      (let e : goals + (size g + size h + 1) ≡ goals + 1 + size g + size h = omega arith in subst (λ n. Awaits rules n ps sts) e a))),
)
awaits_goal (fresh g) rules goals p ps sts i l a = (
  omega arith,
  i.0,
  awaits_goal g rules (goals + 1) (suc p) ps sts i.1 (omega arith)
      (let e : goals + (size g + 1) ≡ goals + 1 + size g = omega arith in subst (λ n. Awaits rules n ps sts) e a),
)
awaits_goal (call r slots) rules goals p ps sts i l a = (omega arith, i, a)

-- a book in scope and within the limits may stand where no goal is awaited
pub awaits_listing : (rs : Rules) (rules goals : ℕ) → Each RuleInScope rs → rules + length rs ≤ 64 → goals + total rs ≤ 1024 → Awaits rules goals [] (listing rs)
awaits_listing [] rules goals i few low = tt
awaits_listing (r ∷ rs) rules goals i few low = (
  omega arith,
  awaits_goal r.goal (rules + 1) goals r.params [] (listing rs) i.0 (omega arith)
      (awaits_listing rs (rules + 1) (goals + size r.goal) i.1 (omega arith) (omega arith)),
)

abbrev pub flat : List Goal → List Statement
flat [] = []
flat (g ∷ gs) = goal_lines g ++ flat gs

-- how many goals there are in some goals
abbrev pub sizes : List Goal → ℕ
sizes [] = 0
sizes (g ∷ gs) = size g + sizes gs

-- as many goals as scopes, each in its own
abbrev pub AllInScope : List ℕ → List Goal → Type 0
AllInScope [] [] = Unit {0}
AllInScope [] (g ∷ gs) = ⊥
AllInScope (p ∷ ps) [] = ⊥
AllInScope (p ∷ ps) (g ∷ gs) = InScope p g × AllInScope ps gs

pub record Grown (rules goals : ℕ) (ps : List ℕ) (gs : List Goal) (rs : Rules) (sts : List Statement) : Type 0 where
  pub writes : flat gs ++ listing rs ≡ sts
  pub waiting : AllInScope ps gs
  pub ruled : Each RuleInScope rs
  pub few_rules_lem : rules + length rs ≤ 64
  pub few_goals_lem : goals + sizes gs + total rs ≤ 1024

-- what statements make, with the scopes that they begin with
abbrev pub Grows : ℕ → ℕ → List ℕ → Forest → List Statement → Type 0
Grows rules goals ps f sts = Grown rules goals ps f.goals f.rules sts

grows_rule : (rules goals p : ℕ) (gs : List Goal) (rs : Rules) (sts : List Statement) → Grown (rules + 1) goals (p ∷ []) gs rs sts → Grows rules goals [] (planted (a_rule p) (record { goals = gs; rules = rs })) (a_rule p ∷ sts)
grows_rule rules goals p [] rs sts w = elim w.waiting [ ]
grows_rule rules goals p (g ∷ []) rs sts w = record { writes = ap (λ l. a_rule p ∷ (l ++ listing rs)) (sym (append-nil (goal_lines g))) ∙ ap (λ l. a_rule p ∷ l) w.writes; waiting = tt; ruled = (w.waiting.0, w.ruled); few_rules_lem = omega arith; few_goals_lem = omega arith }
grows_rule rules goals p (g ∷ h ∷ gs) rs sts w = elim w.waiting.1 [ ]

grows_tell : (rules goals p : ℕ) (ps : List ℕ) (code : ℕ) (k : ℤ) (slots : List ℕ) (gs : List Goal) (rs : Rules) (sts : List Statement) → Each (λ s. s < p) slots → Grown rules (goals + 1) ps gs rs sts → Grows rules goals (p ∷ ps) (planted (a_tell code k slots) (record { goals = gs; rules = rs })) (a_tell code k slots ∷ sts)
grows_tell rules goals p ps code k slots gs rs sts i w = record { writes = ap (λ l. a_tell code k slots ∷ l) w.writes; waiting = (i, w.waiting); ruled = w.ruled; few_rules_lem = w.few_rules_lem; few_goals_lem = omega arith }

grows_call : (rules goals p : ℕ) (ps : List ℕ) (r : ℕ) (slots : List ℕ) (gs : List Goal) (rs : Rules) (sts : List Statement) → Each (λ s. s < p) slots → Grown rules (goals + 1) ps gs rs sts → Grows rules goals (p ∷ ps) (planted (a_call r slots) (record { goals = gs; rules = rs })) (a_call r slots ∷ sts)
grows_call rules goals p ps r slots gs rs sts i w = record { writes = ap (λ l. a_call r slots ∷ l) w.writes; waiting = (i, w.waiting); ruled = w.ruled; few_rules_lem = w.few_rules_lem; few_goals_lem = omega arith }

grows_and : (rules goals p : ℕ) (ps : List ℕ) (gs : List Goal) (rs : Rules) (sts : List Statement) → Grown rules (goals + 1) (p ∷ p ∷ ps) gs rs sts → Grows rules goals (p ∷ ps) (planted an_and (record { goals = gs; rules = rs })) (an_and ∷ sts)
grows_and rules goals p ps [] rs sts w = elim w.waiting [ ]
grows_and rules goals p ps (g ∷ []) rs sts w = elim w.waiting.1 [ ]
grows_and rules goals p ps (g ∷ h ∷ gs) rs sts w = record { writes = ap (λ l. an_and ∷ (l ++ listing rs)) (append_assoc (goal_lines g) (goal_lines h) (flat gs)) ∙ ap (λ l. an_and ∷ l) w.writes; waiting = ((w.waiting.0, w.waiting.1.0), w.waiting.1.1); ruled = w.ruled; few_rules_lem = w.few_rules_lem; few_goals_lem = omega arith }

grows_or : (rules goals p : ℕ) (ps : List ℕ) (gs : List Goal) (rs : Rules) (sts : List Statement) → Grown rules (goals + 1) (p ∷ p ∷ ps) gs rs sts → Grows rules goals (p ∷ ps) (planted an_or (record { goals = gs; rules = rs })) (an_or ∷ sts)
grows_or rules goals p ps [] rs sts w = elim w.waiting [ ]
grows_or rules goals p ps (g ∷ []) rs sts w = elim w.waiting.1 [ ]
grows_or rules goals p ps (g ∷ h ∷ gs) rs sts w = record { writes = ap (λ l. an_or ∷ (l ++ listing rs)) (append_assoc (goal_lines g) (goal_lines h) (flat gs)) ∙ ap (λ l. an_or ∷ l) w.writes; waiting = ((w.waiting.0, w.waiting.1.0), w.waiting.1.1); ruled = w.ruled; few_rules_lem = w.few_rules_lem; few_goals_lem = omega arith }

grows_new : (rules goals p : ℕ) (ps : List ℕ) (gs : List Goal) (rs : Rules) (sts : List Statement) → p < 16 → Grown rules (goals + 1) (suc p ∷ ps) gs rs sts → Grows rules goals (p ∷ ps) (planted a_new (record { goals = gs; rules = rs })) (a_new ∷ sts)
grows_new rules goals p ps [] rs sts l w = elim w.waiting [ ]
grows_new rules goals p ps (g ∷ gs) rs sts l w = record { writes = ap (λ l. a_new ∷ l) w.writes; waiting = ((l, w.waiting.0), w.waiting.1); ruled = w.ruled; few_rules_lem = w.few_rules_lem; few_goals_lem = omega arith }

-- statements that may stand somewhere make goals that are written by them again
pub grows : (sts : List Statement) (rules goals : ℕ) (ps : List ℕ) → rules ≤ 64 → goals ≤ 1024 → Awaits rules goals ps sts → Grows rules goals ps (grown sts) sts
grows [] rules goals [] few low a = record { writes = refl; waiting = tt; ruled = tt; few_rules_lem = omega arith; few_goals_lem = omega arith }
grows [] rules goals (p ∷ ps) few low a = elim a [ ]
grows (a_rule q ∷ sts) rules goals [] few low a = grows_rule rules goals q (grown sts).goals (grown sts).rules sts (grows sts (rules + 1) goals (q ∷ []) (omega arith) low a.1)
grows (a_rule q ∷ sts) rules goals (p ∷ ps) few low a = elim a [ ]
grows (a_tell code k slots ∷ sts) rules goals [] few low a = elim a [ ]
grows (a_tell code k slots ∷ sts) rules goals (p ∷ ps) few low a = grows_tell rules goals p ps code k slots (grown sts).goals (grown sts).rules sts a.1 (grows sts rules (goals + 1) ps few (omega arith) a.2)
grows (an_and ∷ sts) rules goals [] few low a = elim a [ ]
grows (an_and ∷ sts) rules goals (p ∷ ps) few low a = grows_and rules goals p ps (grown sts).goals (grown sts).rules sts (grows sts rules (goals + 1) (p ∷ p ∷ ps) few (omega arith) a.1)
grows (an_or ∷ sts) rules goals [] few low a = elim a [ ]
grows (an_or ∷ sts) rules goals (p ∷ ps) few low a = grows_or rules goals p ps (grown sts).goals (grown sts).rules sts (grows sts rules (goals + 1) (p ∷ p ∷ ps) few (omega arith) a.1)
grows (a_new ∷ sts) rules goals [] few low a = elim a [ ]
grows (a_new ∷ sts) rules goals (p ∷ ps) few low a = grows_new rules goals p ps (grown sts).goals (grown sts).rules sts a.1 (grows sts rules (goals + 1) (suc p ∷ ps) few (omega arith) a.2)
grows (a_call r slots ∷ sts) rules goals [] few low a = elim a [ ]
grows (a_call r slots ∷ sts) rules goals (p ∷ ps) few low a = grows_call rules goals p ps r slots (grown sts).goals (grown sts).rules sts a.1 (grows sts rules (goals + 1) ps few (omega arith) a.2)

-- a book that statements make
pub record Whole (rs : Rules) (sts : List Statement) : Type 0 where
  pub writes : listing rs ≡ sts
  pub ruled : Each RuleInScope rs
  pub few_rules_lem : length rs ≤ 64
  pub few_goals_lem : total rs ≤ 1024

none_waiting : (gs : List Goal) (rs : Rules) (sts : List Statement) → Grown 0 0 [] gs rs sts → Whole rs sts
none_waiting [] rs sts w = record { writes = w.writes; ruled = w.ruled; few_rules_lem = omega arith; few_goals_lem = omega arith }
none_waiting (g ∷ gs) rs sts w = elim w.waiting [ ]

-- statements that may stand where nothing is awaited are the lines of the book that they make
pub grown_whole : (sts : List Statement) → Awaits 0 0 [] sts → Whole (grown sts).rules sts
grown_whole sts a = none_waiting (grown sts).goals (grown sts).rules sts (grows sts 0 0 [] (omega arith) (omega arith) a)

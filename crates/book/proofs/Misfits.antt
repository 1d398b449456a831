-- When no call misfits: each fits the rules that the lines make. Assumes nothing.
--
--   headed    how many parameters each rule among some statements has
--   Called    a statement's call fits rules with so many parameters each
use Rattle.std.proofs.Common.{◌≡◌, ℕ, suc, ◌+◌, ◌<◌, Bool, true, false, cond, eqb, ltb, List, [], ◌∷◌, ◌++◌, map, length, get_or, Some, None, Option, sym, refl, ap, ◌∙◌, subst, append_assoc, arith}
use Rattle.std.proofs.lemmas.List.{length-map, get_or-map}
use Rattle.std.proofs.lemmas.Bool.{ltb-true, lt-ltb, eqb-true, eq-eqb, cond-true}
use Rattle.line.specs.Statements.{Statement, a_rule, a_tell, an_and, an_or, a_new, a_call}
use Rattle.book.specs.declared.refusal.Cause.{Cause}
use Rattle.book.specs.declared.refusal.Cause.TheVariants.{NoSuchRule, SlotCount}
use Rattle.book.specs.Language.{Goal, tell, conj, disj, fresh, call, Rules, nothing, rule_at, Each, Fits, Shallow}
use Rattle.book.specs.Listing.{goal_lines, listing}
use Rattle.book.specs.Reading.{Entry, heads, call_fault_lem, Misfit, fitting, misfit_at, misfit, planted, forest}
use Rattle.book.proofs.Polish.{grown, InScope, RuleInScope}
use Rattle.book.proofs.Passing.{saids}

-- entries make what their statements make
pub forest_grown : (es : List Entry) → forest es ≡ grown (saids es)
forest_grown [] = refl
forest_grown (e ∷ es) = ap (planted e.says) (forest_grown es)

abbrev pub head_of : Statement → List ℕ → List ℕ
head_of (a_rule p) ps = p ∷ ps
head_of (a_tell code k slots) ps = ps
head_of an_and ps = ps
head_of an_or ps = ps
head_of a_new ps = ps
head_of (a_call r slots) ps = ps

abbrev pub headed : List Statement → List ℕ
headed [] = []
headed (st ∷ sts) = head_of st (headed sts)

head_of_is : (st : Statement) (ps : List ℕ) → elim st as (λ _. List ℕ) [ a_rule p ↦ p ∷ ps | a_tell code k slots ↦ ps | an_and ↦ ps | an_or ↦ ps | a_new ↦ ps | a_call r slots ↦ ps ] ≡ head_of st ps
head_of_is (a_rule p) ps = refl
head_of_is (a_tell code k slots) ps = refl
head_of_is an_and ps = refl
head_of_is an_or ps = refl
head_of_is a_new ps = refl
head_of_is (a_call r slots) ps = refl

pub heads_headed : (es : List Entry) → heads es ≡ headed (saids es)
heads_headed [] = refl
heads_headed (e ∷ es) = head_of_is e.says (heads es) ∙ ap (head_of e.says) (heads_headed es)

pub headed_goal : (g : Goal) (sts : List Statement) → headed (goal_lines g ++ sts) ≡ headed sts
headed_goal (tell code k slots) sts = refl
headed_goal (conj g h) sts = ap headed (append_assoc (goal_lines g) (goal_lines h) sts) ∙ headed_goal g (goal_lines h ++ sts) ∙ headed_goal h sts
headed_goal (disj g h) sts = ap headed (append_assoc (goal_lines g) (goal_lines h) sts) ∙ headed_goal g (goal_lines h ++ sts) ∙ headed_goal h sts
headed_goal (fresh g) sts = headed_goal g sts
headed_goal (call r slots) sts = refl

-- the parameters of a book's rules
abbrev pub params_of : Rules → List ℕ
params_of rules = map (λ r. r.params) rules

pub headed_listing : (rules : Rules) → headed (listing rules) ≡ params_of rules
headed_listing [] = refl
headed_listing (r ∷ rs) = ap (λ ps. r.params ∷ ps) (headed_goal r.goal (listing rs) ∙ headed_listing rs)

abbrev pub Called : List ℕ → Statement → Type 0
Called ps st = call_fault_lem ps st ≡ None

-- what is looked for behind a line
abbrev pub found : List ℕ → ℕ → List Entry → Option Cause → Misfit
found ps line es None = misfit ps (line + 1) es
found ps line es (Some cause) = misfit_at cause line

pub found_is : (ps : List ℕ) (line : ℕ) (es : List Entry) (o : Option Cause) → elim o as (λ _. Misfit) [ None ↦ misfit ps (line + 1) es | Some cause ↦ misfit_at cause line ] ≡ found ps line es o
found_is ps line es None = refl
found_is ps line es (Some cause) = refl

pub found_none : (ps : List ℕ) (line : ℕ) (es : List Entry) (o : Option Cause) → found ps line es o ≡ fitting → (o ≡ None) × (misfit ps (line + 1) es ≡ fitting)
found_none ps line es None e = (refl, e)
found_none ps line es (Some cause) e = absurd (let z : ◌≡◌ {A = ℕ} 0 1 = cc in omega arith)

-- no misfit is found exactly if each call fits
pub all_called : (ps : List ℕ) (line : ℕ) (es : List Entry) → misfit ps line es ≡ fitting → Each (Called ps) (saids es)
all_called ps line [] m = tt
all_called ps line (e ∷ es) m =
    let h = found_none ps line es (call_fault_lem ps e.says) (sym (found_is ps line es (call_fault_lem ps e.says)) ∙ m) in
    (h.0, all_called ps (line + 1) es h.1)

pub called_all : (ps : List ℕ) (line : ℕ) (es : List Entry) → Each (Called ps) (saids es) → misfit ps line es ≡ fitting
called_all ps line [] c = refl
called_all ps line (e ∷ es) c = found_is ps line es (call_fault_lem ps e.says) ∙ ap (found ps line es) c.0 ∙ called_all ps (line + 1) es c.1

pub each_front : {A : Type 0} (P : A → Type 0) (xs ys : List A) → Each P (xs ++ ys) → Each P xs
each_front P [] ys h = tt
each_front P (x ∷ xs) ys h = (h.0, each_front P xs ys h.1)

pub each_back : {A : Type 0} (P : A → Type 0) (xs ys : List A) → Each P (xs ++ ys) → Each P ys
each_back P [] ys h = h
each_back P (x ∷ xs) ys h = each_back P xs ys h.1

pub each_append : {A : Type 0} (P : A → Type 0) (xs ys : List A) → Each P xs → Each P ys → Each P (xs ++ ys)
each_append P [] ys h k = k
each_append P (x ∷ xs) ys h k = (h.0, each_append P xs ys h.1 k)

no_fault : (b c : Bool) (x y : Cause) → cond b (cond c None (Some x)) (Some y) ≡ None → (b ≡ true) × (c ≡ true)
no_fault true true x y e = (refl, refl)
no_fault true false x y e = absurd (let z : ◌≡◌ {A = ℕ} 0 1 = cc in omega arith)
no_fault false c x y e = absurd (let z : ◌≡◌ {A = ℕ} 0 1 = cc in omega arith)

-- the parameters of a rule of the book
params_at : (rules : Rules) (r : ℕ) → r < length rules → get_or (params_of rules) r 0 ≡ (rule_at rules r).params
params_at rules r l = get_or-map (λ x. x.params) rules r (record { params = 0; goal = nothing }) 0 l

-- a call fits the parameters of a book exactly if it calls a rule of the book with as many slots as it takes
call_fits : (rules : Rules) (r : ℕ) (slots : List ℕ) → Called (params_of rules) (a_call r slots) → (r < length rules) × (length slots ≡ (rule_at rules r).params)
call_fits rules r slots c =
    let h = no_fault (ltb r (length (params_of rules))) (eqb (length slots) (get_or (params_of rules) r 0)) SlotCount NoSuchRule c in
    let l : r < length rules = subst (λ n. r < n) (length-map rules (λ x. x.params)) (ltb-true r (length (params_of rules)) h.0) in
    (l, eqb-true (length slots) (get_or (params_of rules) r 0) h.1 ∙ params_at rules r l)

fits_call : (rules : Rules) (r : ℕ) (slots : List ℕ) → r < length rules → length slots ≡ (rule_at rules r).params → Called (params_of rules) (a_call r slots)
fits_call rules r slots l e =
    cond-true (ltb r (length (params_of rules))) _ _ (lt-ltb r (length (params_of rules)) (subst (λ n. r < n) (sym (length-map rules (λ x. x.params))) l))
    ∙ cond-true (eqb (length slots) (get_or (params_of rules) r 0)) _ _ (eq-eqb (length slots) (get_or (params_of rules) r 0) (e ∙ sym (params_at rules r l)))

-- a goal fits exactly if it is in scope and each of its calls fits
pub goal_fits : (rules : Rules) (p : ℕ) (g : Goal) → InScope p g → Each (Called (params_of rules)) (goal_lines g) → Fits rules p g
goal_fits rules p (tell code k slots) i c = i
goal_fits rules p (conj g h) i c = (goal_fits rules p g i.0 (each_front _ (goal_lines g) (goal_lines h) c.1), goal_fits rules p h i.1 (each_back _ (goal_lines g) (goal_lines h) c.1))
goal_fits rules p (disj g h) i c = (goal_fits rules p g i.0 (each_front _ (goal_lines g) (goal_lines h) c.1), goal_fits rules p h i.1 (each_back _ (goal_lines g) (goal_lines h) c.1))
goal_fits rules p (fresh g) i c = goal_fits rules (suc p) g i.1 c.1
goal_fits rules p (call r slots) i c = let h = call_fits rules r slots c.0 in (h.0, h.1, i)

pub goal_shallow : (p : ℕ) (g : Goal) → InScope p g → Shallow p g
goal_shallow p (tell code k slots) i = tt
goal_shallow p (conj g h) i = (goal_shallow p g i.0, goal_shallow p h i.1)
goal_shallow p (disj g h) i = (goal_shallow p g i.0, goal_shallow p h i.1)
goal_shallow p (fresh g) i = (i.0, goal_shallow (suc p) g i.1)
goal_shallow p (call r slots) i = tt

pub goal_scoped : (rules : Rules) (p : ℕ) (g : Goal) → Fits rules p g → Shallow p g → InScope p g
goal_scoped rules p (tell code k slots) f s = f
goal_scoped rules p (conj g h) f s = (goal_scoped rules p g f.0 s.0, goal_scoped rules p h f.1 s.1)
goal_scoped rules p (disj g h) f s = (goal_scoped rules p g f.0 s.0, goal_scoped rules p h f.1 s.1)
goal_scoped rules p (fresh g) f s = (s.0, goal_scoped rules (suc p) g f s.1)
goal_scoped rules p (call r slots) f s = f.2

pub goal_called : (rules : Rules) (p : ℕ) (g : Goal) → Fits rules p g → Each (Called (params_of rules)) (goal_lines g)
goal_called rules p (tell code k slots) f = (refl, tt)
goal_called rules p (conj g h) f = (refl, each_append _ (goal_lines g) (goal_lines h) (goal_called rules p g f.0) (goal_called rules p h f.1))
goal_called rules p (disj g h) f = (refl, each_append _ (goal_lines g) (goal_lines h) (goal_called rules p g f.0) (goal_called rules p h f.1))
goal_called rules p (fresh g) f = (refl, goal_called rules (suc p) g f)
goal_called rules p (call r slots) f = (fits_call rules r slots f.0 f.1, tt)

-- the same of each of some rules
pub rules_fit : (rules rs : Rules) → Each RuleInScope rs → Each (Called (params_of rules)) (listing rs) → Each (λ r. Fits rules r.params r.goal) rs
rules_fit rules [] i c = tt
rules_fit rules (r ∷ rs) i c = (goal_fits rules r.params r.goal i.0 (each_front _ (goal_lines r.goal) (listing rs) c.1), rules_fit rules rs i.1 (each_back _ (goal_lines r.goal) (listing rs) c.1))

pub rules_shallow : (rs : Rules) → Each RuleInScope rs → Each (λ r. Shallow r.params r.goal) rs
rules_shallow [] i = tt
rules_shallow (r ∷ rs) i = (goal_shallow r.params r.goal i.0, rules_shallow rs i.1)

pub rules_scoped : (rules rs : Rules) → Each (λ r. Fits rules r.params r.goal) rs → Each (λ r. Shallow r.params r.goal) rs → Each RuleInScope rs
rules_scoped rules [] f s = tt
rules_scoped rules (r ∷ rs) f s = (goal_scoped rules r.params r.goal f.0 s.0, rules_scoped rules rs f.1 s.1)

pub rules_called : (rules rs : Rules) → Each (λ r. Fits rules r.params r.goal) rs → Each (Called (params_of rules)) (listing rs)
rules_called rules [] f = tt
rules_called rules (r ∷ rs) f = (refl, each_append _ (goal_lines r.goal) (listing rs) (goal_called rules r.params r.goal f.0) (rules_called rules rs f.1))

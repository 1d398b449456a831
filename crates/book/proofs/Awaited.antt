-- What lines that pass the check have in common: each stands where it was awaited. Assumes nothing.
--
--   Follows   the scopes awaited before a line, and after it
--   Awaited   the lines follow one another, and none is awaited after the last
use Rattle.std.proofs.Common.{◌≡◌, ℕ, zero, suc, ◌+◌, ◌<◌, ltb, List, [], ◌∷◌, ◌++◌, drop, None, Option, sym, refl, ap, ◌∙◌, subst, append_assoc, append-nil, arith}
use Rattle.std.proofs.lemmas.Bool.{ltb-true}
use Rattle.fields.specs.Cutting.{fields}
use Rattle.line.proofs.Exactly.{exact}
use Rattle.line.specs.Reading.{Outcome, said, wrong, outcome}
use Rattle.line.specs.Statements.{Statement, a_rule, a_tell, an_and, an_or, a_new, a_call, InRange}
use Rattle.book.specs.Language.{Each}
use Rattle.book.specs.Reading.{Entry, State, Placed, placed, barred, stray, goal_placed, slots_placed, place_rule_lem, place_in, place_goal_lem, place, passed, closed, check}
use Rattle.book.proofs.Passing.{not_barred, none_stray, slots_only, onward, behind, check_cons}

abbrev pub Follows : Statement → ℕ → List ℕ → List ℕ → Type 0
Follows (a_rule p) s a b = (a ≡ []) × (b ≡ p ∷ [])
Follows (a_tell code k slots) s a b = (a ≡ s ∷ b) × Each (λ x. x < s) slots
Follows an_and s a b = (others : List ℕ) × (a ≡ s ∷ others) × (b ≡ s ∷ s ∷ others)
Follows an_or s a b = (others : List ℕ) × (a ≡ s ∷ others) × (b ≡ s ∷ s ∷ others)
Follows a_new s a b = (others : List ℕ) × (a ≡ s ∷ others) × (b ≡ (s + 1) ∷ others) × (s < 16)
Follows (a_call r slots) s a b = (a ≡ s ∷ b) × Each (λ x. x < s) slots

abbrev pub Awaited : List ℕ → List Entry → Type 0
Awaited a [] = a ≡ []
Awaited a (e ∷ es) = (b : List ℕ) × InRange e.says × Follows e.says e.scope a b × Awaited b es

-- what is left of such lines is awaited in its place
pub awaited_drop : (k : ℕ) (a : List ℕ) (es : List Entry) → Awaited a es → (b : List ℕ) × Awaited b (drop k es)
awaited_drop zero a es h = (a, h)
awaited_drop (suc k) a [] h = (a, h)
awaited_drop (suc k) a (e ∷ es) h = awaited_drop k h.0 es h.3

-- one line that was placed
pub record Placing (s : State) (st : Statement) (t : State) : Type 0 where
  pub scope : ℕ
  pub entries : t.entries ≡ s.entries ++ record { says = st; scope = scope } ∷ []
  pub follows : Follows st scope s.awaited t.awaited

placed_state : (s t : State) → placed s ≡ placed t → s ≡ t
placed_state s t e = cc

-- the line joins those before it
goal_placing : (s : State) (st : Statement) (scope : ℕ) (awaited : List ℕ) (t : State) → goal_placed s st scope awaited ≡ placed t → Follows st scope s.awaited awaited → Placing s st t
goal_placing s st scope awaited t e f =
    let is = placed_state _ t e in
    record { scope = scope; entries = ap (λ (q : State). q.entries) (sym is); follows = subst (λ (q : State). Follows st scope s.awaited q.awaited) is f }

slots_placing : (s : State) (st : Statement) (scope : ℕ) (awaited : List ℕ) (o : Option ℕ) (t : State) → slots_placed s st scope awaited o ≡ placed t → (o ≡ None → Follows st scope s.awaited awaited) → Placing s st t
slots_placing s st scope awaited o t e f = let h = slots_only s st scope awaited o t e in goal_placing s st scope awaited t h.1 (f h.0)

placing_in : (s : State) (st : Statement) (scope : ℕ) (others : List ℕ) (t : State) → s.awaited ≡ scope ∷ others → place_in s st scope others ≡ placed t → Placing s st t
placing_in s (a_rule p) scope others t a e = absurd (let z : ◌≡◌ {A = ℕ} 0 1 = cc in omega arith)
placing_in s (a_tell code k slots) scope others t a e = slots_placing s (a_tell code k slots) scope others (stray scope 3 slots) t e (λ o. (a, none_stray scope 3 slots o))
placing_in s an_and scope others t a e = goal_placing s an_and scope (scope ∷ scope ∷ others) t e (others, a, refl)
placing_in s an_or scope others t a e = goal_placing s an_or scope (scope ∷ scope ∷ others) t e (others, a, refl)
placing_in s a_new scope others t a e =
    let p = not_barred (ltb scope 16) _ _ _ t e in
    goal_placing s a_new scope ((scope + 1) ∷ others) t p.1 (others, a, refl, ltb-true scope 16 p.0)
placing_in s (a_call r slots) scope others t a e = slots_placing s (a_call r slots) scope others (stray scope 2 slots) t e (λ o. (a, none_stray scope 2 slots o))

placing_goal : (s : State) (st : Statement) (a : List ℕ) (t : State) → s.awaited ≡ a → place_goal_lem s st a ≡ placed t → Placing s st t
placing_goal s st [] t a e = absurd (let z : ◌≡◌ {A = ℕ} 0 1 = cc in omega arith)
placing_goal s st (scope ∷ others) t a e = placing_in s st scope others t a (not_barred (ltb s.goals 1024) _ _ _ t e).1

placing_rule : (s : State) (p : ℕ) (a : List ℕ) (t : State) → s.awaited ≡ a → place_rule_lem s p a ≡ placed t → Placing s (a_rule p) t
placing_rule s p [] t a e =
    let is = placed_state _ t (not_barred (ltb s.rules 64) _ _ _ t e).1 in
    record { scope = p; entries = ap (λ (q : State). q.entries) (sym is); follows = subst (λ (q : State). Follows (a_rule p) p s.awaited q.awaited) is (a, refl) }
placing_rule s p (x ∷ xs) t a e = absurd (let z : ◌≡◌ {A = ℕ} 0 1 = cc in omega arith)

pub placing : (s : State) (st : Statement) (t : State) → place s st ≡ placed t → Placing s st t
placing s (a_rule p) t e = placing_rule s p s.awaited t refl e
placing s (a_tell code k slots) t e = placing_goal s (a_tell code k slots) s.awaited t refl e
placing s an_and t e = placing_goal s an_and s.awaited t refl e
placing s an_or t e = placing_goal s an_or s.awaited t refl e
placing s a_new t e = placing_goal s a_new s.awaited t refl e
placing s (a_call r slots) t e = placing_goal s (a_call r slots) s.awaited t refl e

-- the lines that a check adds to those before it
pub record Passing (s : State) (es : List Entry) : Type 0 where
  pub more : List Entry
  pub entries : es ≡ s.entries ++ more
  pub awaited : Awaited s.awaited more

passing_none : (line : ℕ) (s : State) (a : List ℕ) (es : List Entry) → s.awaited ≡ a → closed line s a ≡ passed es → Passing s es
passing_none line s [] es a e = record { more = []; entries = (let h : es ≡ s.entries = cc in h ∙ sym (append-nil s.entries)); awaited = a }
passing_none line s (x ∷ xs) es a e = absurd (let z : ◌≡◌ {A = ℕ} 0 1 = cc in omega arith)

passing_more : (s : State) (st : Statement) (t : State) (es : List Entry) → InRange st → Placing s st t → Passing t es → Passing s es
passing_more s st t es r here rest =
    record { more = record { says = st; scope = here.scope } ∷ rest.more; entries = rest.entries ∙ ap (λ l. l ++ rest.more) here.entries ∙ append_assoc s.entries (record { says = st; scope = here.scope } ∷ []) rest.more; awaited = (t.awaited, r, here.follows, rest.awaited) }

onward_passing : (line : ℕ) (s : State) (st : Statement) (ls : List (List ℕ)) (q : Placed) (es : List Entry) → InRange st → place s st ≡ q → ((t : State) → check (line + 1) t ls ≡ passed es → Passing t es) → onward line ls q ≡ passed es → Passing s es
onward_passing line s st ls (barred cause field) es r p ih e = absurd (let z : ◌≡◌ {A = ℕ} 0 1 = cc in omega arith)
onward_passing line s st ls (placed t) es r p ih e = passing_more s st t es r (placing s st t p) (ih t e)

behind_passing : (line : ℕ) (s : State) (l : List ℕ) (ls : List (List ℕ)) (o : Outcome) (es : List Entry) → outcome 0 (fields l) ≡ o → ((t : State) → check (line + 1) t ls ≡ passed es → Passing t es) → behind line s ls o ≡ passed es → Passing s es
behind_passing line s l ls (wrong fault) es o ih e = absurd (let z : ◌≡◌ {A = ℕ} 0 1 = cc in omega arith)
behind_passing line s l ls (said st) es o ih e = onward_passing line s st ls (place s st) es ((exact 0 (fields l)).only st o).0 refl ih e

pub passing : (line : ℕ) (s : State) (ls : List (List ℕ)) (es : List Entry) → check line s ls ≡ passed es → Passing s es
passing line s [] es e = passing_none line s s.awaited es refl e
passing line s (l ∷ ls) es e = behind_passing line s l ls (outcome 0 (fields l)) es refl (λ t. passing (line + 1) t ls es) (sym (check_cons line s l ls) ∙ e)

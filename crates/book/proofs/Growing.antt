-- A table that grows line by line from the last line up, against the rules that the lines make. Assumes nothing.
--
--   goals_in   how many of some lines are goals
--   Rows       goals that are written one behind the other, from a line on up to another
--   Grown      the table and the rules stand for what the lines make, with these goals waiting for one above them
use Rattle.std.proofs.Common.{◌≡◌, ℕ, suc, ◌+◌, ◌<◌, ◌≤◌, Bool, true, false, cond, ◌&&◌, eqb, ltb, List, [], ◌∷◌, ◌++◌, map, length, get_or, Some, None, sym, refl, ap, ◌∙◌, subst, arith}
use Rattle.std.proofs.lemmas.List.{length_push, length-map}
use Rattle.std.proofs.lemmas.Bool.{and_from, ltb-true, lt-ltb, le-leb, eqb-true, eq-eqb}
use Rattle.line.specs.declared.Line.{Line}
use Rattle.line.specs.declared.Line.TheVariants.{Rule as RuleLine, Tell as TellLine, And as AndLine, Or as OrLine, New as NewLine, Call as CallLine}
use Rattle.line.specs.Says.{says}
use Rattle.row.specs.declared.ShortRow.{ShortRow}
use Rattle.row.specs.Shorts.{items}
use Rattle.line.specs.Statements.{Statement, a_rule, a_tell, an_and, an_or, a_new, a_call}
use Rattle.numeral.specs.Reads.{size as magnitude}
use Rattle.book.specs.declared.refusal.Cause.TheVariants.{SlotCount, NoSuchRule}
use Rattle.book.specs.declared.Form.{Form}
use Rattle.book.specs.declared.Node.{Node}
use Rattle.book.specs.declared.Rule.{Rule}
use Rattle.book.specs.Building.{head, tail, formed, unused}
use Rattle.book.specs.Language.{Goal, conj, disj, fresh, size, Each}
use Rattle.book.specs.Reading.{Entry, first, rest, forest, heads, call_fault_lem}
use Rattle.book.specs.Table.{grown, goals_of, goal_at, scope_at, line_at, part, all_below, slots_fit, form_fits, heads_of, call_fits, calls_fit, rooted, rules_of}
use Rattle.book.proofs.Awaited.{Awaited}
use Rattle.book.proofs.Grows.{goal_kept, goal_new, node_kept, node_new, rooted_kept, rules_kept, calls_more}

abbrev pub goals_for : Statement → ℕ
goals_for (a_rule p) = 0
goals_for (a_tell code k slots) = 1
goals_for an_and = 1
goals_for an_or = 1
goals_for a_new = 1
goals_for (a_call r slots) = 1

abbrev pub goals_in : List Entry → ℕ
goals_in [] = 0
goals_in (e ∷ es) = goals_for e.says + goals_in es

abbrev pub Rows : List Node → ℕ → List ℕ → ℕ → Type 0
Rows ns line [] next = line ≡ next
Rows ns line (i ∷ is) next = (i < length ns) × (line_at ns i ≡ line) × Rows ns (line + size (goal_at ns i)) is next

pub record Grown (hs : List ℕ) (end line : ℕ) (es : List Entry) (ns : List Node) (rs : List Rule) (roots : List ℕ) : Type 0 where
  pub next : ℕ
  pub goals : map (goal_at ns) roots ≡ (forest es).goals
  pub rules : rules_of ns rs ≡ (forest es).rules
  pub rows : Rows ns line roots next
  pub scopes : (a : List ℕ) → Awaited a es → map (scope_at ns) roots ≡ a
  pub rooting : rooted ns end next rs ≡ true
  pub calls : calls_fit hs ns ≡ true
  pub headed : heads_of rs ≡ heads es
  pub nodes : length ns ≡ goals_in es
  pub few : length roots ≤ length ns

pub grown_none : (hs : List ℕ) (line : ℕ) → Grown hs line line [] [] [] []
grown_none hs line = record { next = line; goals = refl; rules = refl; rows = refl; scopes = λ a h. sym h; rooting = eq-eqb line line refl; calls = refl; headed = refl; nodes = refl; few = omega arith }

-- what the table had, it has
module _ (ns : List Node) (n : Node) where
  rows_kept : (line : ℕ) (is : List ℕ) (next : ℕ) → Rows ns line is next → Rows (ns ++ n ∷ []) line is next
  rows_kept line [] next h = h
  rows_kept line (i ∷ is) next h =
      let long = length_push ns n in
      let lt = h.0 in
      (omega arith, ap (λ (m : Node). m.line) (node_kept ns n i lt) ∙ h.1, rows_kept (line + size (goal_at (ns ++ n ∷ []) i)) is next (subst (λ g. Rows ns (line + size g) is next) (sym (goal_kept ns n i lt)) h.2))

  goals_kept : (line : ℕ) (is : List ℕ) (next : ℕ) → Rows ns line is next → map (goal_at (ns ++ n ∷ [])) is ≡ map (goal_at ns) is
  goals_kept line [] next h = refl
  goals_kept line (i ∷ is) next h = λ t. goal_kept ns n i h.0 t ∷ goals_kept (line + size (goal_at ns i)) is next h.2 t

  scopes_kept : (line : ℕ) (is : List ℕ) (next : ℕ) → Rows ns line is next → map (scope_at (ns ++ n ∷ [])) is ≡ map (scope_at ns) is
  scopes_kept line [] next h = refl
  scopes_kept line (i ∷ is) next h = λ t. (node_kept ns n i h.0 t).scope ∷ scopes_kept (line + size (goal_at ns i)) is next h.2 t

-- a node above some of the goals that waited, `us` being the others
module _ (hs : List ℕ) (end line : ℕ) (e : Entry) (es : List Entry) (ns : List Node) (rs : List Rule) (roots us : List ℕ) (n : Node) (was : Grown hs end (line + 1) es ns rs roots) where
  grown_node :
      n.line ≡ line
      → Rows ns (line + size (grown (goals_of [] ns) n.form)) us was.next
      → grown (goals_of [] ns) n.form ∷ map (goal_at ns) us ≡ (forest (e ∷ es)).goals
      → (forest es).rules ≡ (forest (e ∷ es)).rules
      → ((a : List ℕ) → Awaited a (e ∷ es) → n.scope ∷ map (scope_at ns) us ≡ a)
      → call_fits hs n.form ≡ true
      → heads es ≡ heads (e ∷ es)
      → goals_in (e ∷ es) ≡ goals_in es + 1
      → length us ≤ length ns
      → Grown hs end line (e ∷ es) (ns ++ n ∷ []) rs (length ns ∷ us)
  grown_node lined rows goals rules scopes calls headed counted few =
      let long = length_push ns n in
      let new = goal_new ns n in
      let node = node_new ns n in
      record {
        next = was.next;
        goals = (λ t. new t ∷ goals_kept ns n (line + size (grown (goals_of [] ns) n.form)) us was.next rows t) ∙ goals;
        rules = rules_kept ns n end was.next rs was.rooting ∙ was.rules ∙ rules;
        rows = (omega arith, ap (λ (m : Node). m.line) node ∙ lined, subst (λ g. Rows (ns ++ n ∷ []) (line + size g) us was.next) (sym new) (rows_kept ns n (line + size (grown (goals_of [] ns) n.form)) us was.next rows));
        scopes = λ a h. (λ t. (node t).scope ∷ scopes_kept ns n (line + size (grown (goals_of [] ns) n.form)) us was.next rows t) ∙ scopes a h;
        rooting = rooted_kept ns n end was.next rs was.rooting;
        calls = calls_more hs ns n was.calls calls;
        headed = was.headed ∙ headed;
        nodes = (let c = was.nodes in omega arith);
        few = omega arith;
      }

each_all : (s : ℕ) (xs : List ℕ) → Each (λ x. x < s) xs → all_below s xs ≡ true
each_all s [] h = refl
each_all s (x ∷ xs) h = and_from _ _ (lt-ltb x s h.0) (each_all s xs h.1)

slots_are : {N : ℕ} (most scope : ℕ) (s : ShortRow ℕ N) → length (items s) ≤ most → Each (λ x. x < scope) (items s) → slots_fit most scope s ≡ true
slots_are most scope s few each = and_from _ _ (le-leb (length (items s)) most few) (each_all scope (items s) each)

is_part : (ns : List Node) (i scope line : ℕ) → i < length ns → scope_at ns i ≡ scope → line_at ns i ≡ line → part ns i scope line ≡ true
is_part ns i scope line h s l = and_from _ _ (lt-ltb i (length ns) h) (and_from _ _ (eq-eqb _ scope s) (eq-eqb _ line l))

pub calls_none : (hs : List ℕ) (r : ℕ) (xs : List ℕ) → call_fault_lem hs (a_call r xs) ≡ None → (r < length hs) × (length xs ≡ get_or hs r 0)
calls_none hs r xs e = outer (ltb r (length hs)) (eqb (length xs) (get_or hs r 0)) refl refl e
  where
    outer : (b d : Bool) → b ≡ ltb r (length hs) → d ≡ eqb (length xs) (get_or hs r 0) → cond b (cond d None (Some SlotCount)) (Some NoSuchRule) ≡ None → (r < length hs) × (length xs ≡ get_or hs r 0)
    outer true true b d e = (ltb-true _ _ (sym b), eqb-true _ _ (sym d))
    outer true false b d e = absurd (let z : ◌≡◌ {A = ℕ} 0 1 = cc in omega arith)
    outer false d b h e = absurd (let z : ◌≡◌ {A = ℕ} 0 1 = cc in omega arith)

-- what a goal line needs, and what its node leaves
pub record Plants (hs : List ℕ) (end line : ℕ) (c : Line) (s : ℕ) (es : List Entry) (ns : List Node) (rs : List Rule) (roots : List ℕ) : Type 0 where
  pub fits : form_fits ns s line (formed roots c) ≡ true
  pub fewer : length (unused roots c) ≤ length ns
  pub grows : Grown hs end line (record { says = says c; scope = s } ∷ es) (ns ++ record { form = formed roots c; scope = s; line = line } ∷ []) rs (length ns ∷ unused roots c)

abbrev pub IsGoal : Line → Type 0
IsGoal (RuleLine p) = ⊥
IsGoal (TellLine t) = Unit {0}
IsGoal AndLine = Unit {0}
IsGoal OrLine = Unit {0}
IsGoal NewLine = Unit {0}
IsGoal (CallLine c) = Unit {0}

module _ (hs : List ℕ) (end line s : ℕ) (es : List Entry) (ns : List Node) (rs : List Rule) where
  -- a node above the two goals that waited first
  above_two :
      (e : Entry) (f : Form) (op : Goal → Goal → Goal) (i j : ℕ) (us : List ℕ) (was : Grown hs end (line + 1) es ns rs (i ∷ j ∷ us))
      → ((g h : Goal) → size (op g h) ≡ size g + size h + 1)
      → grown (goals_of [] ns) f ≡ op (goal_at ns i) (goal_at ns j)
      → (forest (e ∷ es)).goals ≡ op (first (forest es).goals) (first (rest (forest es).goals)) ∷ rest (rest (forest es).goals)
      → (forest es).rules ≡ (forest (e ∷ es)).rules
      → ((a : List ℕ) → Awaited a (e ∷ es) → (others : List ℕ) × (a ≡ s ∷ others) × Awaited (s ∷ s ∷ others) es)
      → call_fits hs f ≡ true
      → heads es ≡ heads (e ∷ es)
      → goals_in (e ∷ es) ≡ goals_in es + 1
      → Grown hs end line (e ∷ es) (ns ++ record { form = f; scope = s; line = line } ∷ []) rs (length ns ∷ us)
  above_two e f op i j us was sizes made goals rules scopes calls headed counted =
      let long : line + 1 + size (goal_at ns i) + size (goal_at ns j) ≡ line + size (grown (goals_of [] ns) f) = omega (arith, ap size made ∙ sizes (goal_at ns i) (goal_at ns j)) in
      let gs = was.goals in
      grown_node hs end line e es ns rs (i ∷ j ∷ us) us (record { form = f; scope = s; line = line }) was refl
      (subst (λ l. Rows ns l us was.next) long was.rows.2.2)
      ((λ t. made t ∷ map (goal_at ns) us) ∙ (λ t. op (first (gs t)) (first (rest (gs t))) ∷ rest (rest (gs t))) ∙ sym goals)
      rules
      (λ a h. let o = scopes a h in let e = was.scopes (s ∷ s ∷ o.0) o.2 in let left : map (scope_at ns) us ≡ o.0 = cc in ap (λ l. s ∷ l) left ∙ sym o.1)
      calls headed counted (let few = was.few in omega arith)

  two_parts : (i j : ℕ) (us others : List ℕ) (was : Grown hs end (line + 1) es ns rs (i ∷ j ∷ us)) → Awaited (s ∷ s ∷ others) es → part ns i s (line + 1) && part ns j s (line + 1 + size (goal_at ns i)) ≡ true
  two_parts i j us others was w =
      let e = was.scopes (s ∷ s ∷ others) w in
      let a : scope_at ns i ≡ s = cc in
      let b : scope_at ns j ≡ s = cc in
      let r = was.rows in
      and_from _ _ (is_part ns i s (line + 1) r.0 a r.1) (is_part ns j s (line + 1 + size (goal_at ns i)) r.2.0 b r.2.1)

  -- goals that are awaited wait
  too_few : (roots a : List ℕ) (x : ℕ) → Grown hs end (line + 1) es ns rs roots → Awaited (x ∷ a) es → length roots ≡ suc (length a)
  too_few roots a x was w = sym (length-map roots (scope_at ns)) ∙ ap length (was.scopes (x ∷ a) w)

  pub plants : (c : Line) (roots : List ℕ) (a : List ℕ) → IsGoal c → call_fault_lem hs (says c) ≡ None → Awaited a (record { says = says c; scope = s } ∷ es) → Grown hs end (line + 1) es ns rs roots → Plants hs end line c s es ns rs roots
  plants (RuleLine p) roots a g f w was = absurd g
  plants (TellLine t) roots a g f w was =
      let q = w.1 in
      let slots = slots_are 3 s t.slots q.2 w.2.1 in
      record {
        fits = and_from _ _ (le-leb t.code 255 q.0) (and_from _ _ (le-leb (magnitude t.k) 1000 q.1) slots);
        fewer = was.few;
        grows = grown_node hs end line _ es ns rs roots roots _ was refl was.rows (λ t'. grown (goals_of [] ns) (formed roots (TellLine t)) ∷ was.goals t') refl (λ a' h. (λ t'. s ∷ was.scopes h.0 h.3 t') ∙ sym h.2.0) refl refl (omega arith) was.few;
      }
  plants AndLine [] a g f w was = absurd (omega (arith, too_few [] (s ∷ w.2.0) s was (subst (λ b. Awaited b es) w.2.2 w.3)))
  plants AndLine (i ∷ []) a g f w was = absurd (omega (arith, too_few (i ∷ []) (s ∷ w.2.0) s was (subst (λ b. Awaited b es) w.2.2 w.3)))
  plants AndLine (i ∷ j ∷ us) a g f w was =
      record {
        fits = two_parts i j us w.2.0 was (subst (λ b. Awaited b es) w.2.2 w.3);
        fewer = (let few = was.few in omega arith);
        grows = above_two _ (formed (i ∷ j ∷ us) AndLine) conj i j us was (λ g h. refl) refl refl refl (λ a' h. (h.2.0, h.2.1, subst (λ b. Awaited b es) h.2.2 h.3)) refl refl (omega arith);
      }
  plants OrLine [] a g f w was = absurd (omega (arith, too_few [] (s ∷ w.2.0) s was (subst (λ b. Awaited b es) w.2.2 w.3)))
  plants OrLine (i ∷ []) a g f w was = absurd (omega (arith, too_few (i ∷ []) (s ∷ w.2.0) s was (subst (λ b. Awaited b es) w.2.2 w.3)))
  plants OrLine (i ∷ j ∷ us) a g f w was =
      record {
        fits = two_parts i j us w.2.0 was (subst (λ b. Awaited b es) w.2.2 w.3);
        fewer = (let few = was.few in omega arith);
        grows = above_two _ (formed (i ∷ j ∷ us) OrLine) disj i j us was (λ g h. refl) refl refl refl (λ a' h. (h.2.0, h.2.1, subst (λ b. Awaited b es) h.2.2 h.3)) refl refl (omega arith);
      }
  plants NewLine [] a g f w was = absurd (omega (arith, too_few [] w.2.0 (s + 1) was (subst (λ b. Awaited b es) w.2.2 w.3)))
  plants NewLine (i ∷ us) a g f w was =
      let e = was.scopes ((s + 1) ∷ w.2.0) (subst (λ b. Awaited b es) w.2.2 w.3) in
      let scoped : scope_at ns i ≡ s + 1 = cc in
      let r = was.rows in
      let gs = was.goals in
      let long : line + 1 + size (goal_at ns i) ≡ line + (size (goal_at ns i) + 1) = omega arith in
      record {
        fits = and_from _ _ (lt-ltb s 16 w.2.3) (is_part ns i (s + 1) (line + 1) r.0 scoped r.1);
        fewer = (let few = was.few in omega arith);
        grows = grown_node hs end line _ es ns rs (i ∷ us) us _ was refl (subst (λ l. Rows ns l us was.next) long r.2) (λ t. fresh (first (gs t)) ∷ rest (gs t)) refl (λ a' h. let o = was.scopes ((s + 1) ∷ h.2.0) (subst (λ b. Awaited b es) h.2.2 h.3) in let left : map (scope_at ns) us ≡ h.2.0 = cc in ap (λ l. s ∷ l) left ∙ sym h.2.1) refl refl (omega arith) (let few = was.few in omega arith);
      }
  plants (CallLine c) roots a g f w was =
      let q = w.1 in
      let fit = calls_none hs c.rule (items c.slots) f in
      record {
        fits = slots_are 16 s c.slots q.1 w.2.1;
        fewer = was.few;
        grows = grown_node hs end line _ es ns rs roots roots _ was refl was.rows (λ t'. grown (goals_of [] ns) (formed roots (CallLine c)) ∷ was.goals t') refl (λ a' h. (λ t'. s ∷ was.scopes h.0 h.3 t') ∙ sym h.2.0) (and_from _ _ (lt-ltb c.rule (length hs) fit.0) (eq-eqb (length (items c.slots)) (get_or hs c.rule 0) fit.1)) refl (omega arith) was.few;
      }

  -- a rule line takes the one goal that waits
  pub heads_grown : (p : ℕ) (roots a : List ℕ) → Awaited a (record { says = a_rule p; scope = s } ∷ es) → Grown hs end (line + 1) es ns rs roots → Grown hs end line (record { says = a_rule p; scope = s } ∷ es) ns (record { params = p; goal = head roots } ∷ rs) (tail roots)
  heads_grown p [] a w was = absurd (omega (arith, too_few [] [] p was (subst (λ b. Awaited b es) w.2.1 w.3)))
  heads_grown p (i ∷ j ∷ us) a w was = absurd (omega (arith, too_few (i ∷ j ∷ us) [] p was (subst (λ b. Awaited b es) w.2.1 w.3)))
  heads_grown p (i ∷ []) a w was =
      let e = was.scopes (p ∷ []) (subst (λ b. Awaited b es) w.2.1 w.3) in
      let scoped : scope_at ns i ≡ p = cc in
      let r = was.rows in
      let gs = was.goals in
      let few = was.few in
      record {
        next = line;
        goals = ap rest gs;
        rules = (λ t. record { params = p; goal = first (gs t) } ∷ was.rules t);
        rows = refl;
        scopes = λ a' h. sym h.2.0;
        rooting = and_from _ _ (le-leb p 16 w.1) (and_from _ _ (is_part ns i p (line + 1) r.0 scoped r.1) (subst (λ l. rooted ns end l rs ≡ true) (sym r.2) was.rooting));
        calls = was.calls;
        headed = ap (λ l. p ∷ l) was.headed;
        nodes = (let c = was.nodes in omega arith);
        few = omega arith;
      }

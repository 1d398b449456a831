-- What the loop over a draft's lines keeps, and what it has built at the end. Assumes nothing.
use Rattle.std.proofs.Common.{◌≡◌, ℕ, zero, suc, ◌+◌, ◌<◌, ◌≤◌, true, List, [], ◌∷◌, ◌++◌, map, reverse, length, get_or, take, drop, None, sym, refl, ap, ◌∙◌, subst, arith}
use Rattle.std.proofs.Math.Path.{transport}
use Rattle.std.proofs.lemmas.List.{length-append, length-map, length-reverse, length-take, length_push, reverse-append, drop_more, drop_all, take_all, take_at, take-take, get_or-map, get_or-take, get_or_push}
use Rattle.row.specs.declared.ShortRow.{ShortRow}
use Rattle.row.specs.Shorts.{items as in_row}
use Rattle.row.proofs.Shorts.{items_few}
use Rattle.line.specs.declared.Line.{Line}
use Rattle.line.specs.declared.Line.TheVariants.{Rule as RuleLine, Tell as TellLine, And as AndLine, Or as OrLine, New as NewLine, Call as CallLine}
use Rattle.line.specs.Says.{says}
use Rattle.line.specs.Statements.{Statement, a_rule, a_tell, an_and, an_or, a_new, a_call}
use Rattle.stack.specs.declared.Stack.{Stack}
use Rattle.stack.specs.Items.{items, room}
use Rattle.book.specs.declared.drafts.Draft.{Draft}
use Rattle.book.specs.declared.drafts.Listed.{Listed}
use Rattle.book.specs.declared.Node.{Node}
use Rattle.book.specs.declared.Rule.{Rule}
use Rattle.book.specs.declared.Table.{Table}
use Rattle.book.specs.Building.{head, tail, formed, unused}
use Rattle.book.specs.Drafts.{entries, rules}
use Rattle.book.specs.Lists.{entry_of}
use Rattle.book.specs.Meaning.{nodes}
use Rattle.book.specs.Reading.{Entry, heads, misfit, fitting, call_fault_lem, start, passed, check, forest}
use Rattle.book.specs.Table.{scope_at, rooted, calls_fit, heads_of, rules_of}
use Rattle.book.proofs.Listing.{head_first}
use Rattle.book.proofs.Misfits.{found_is, found_none}
use Rattle.book.proofs.Walks.{heads_length as heads_of_length}
use Rattle.book.proofs.Awaited.{Awaited, awaited_drop, passing}
use Rattle.book.proofs.Growing.{goals_for, goals_in, Rows, Grown, grown_none, IsGoal, Plants, plants, heads_grown}

-- with these lines left, all others are in the table, and the rules are those among them, the last one first
pub record Built (d : Draft) (left : List Listed) (table : Table) (rules : ShortRow Rule 64) (roots : Stack ℕ) : Type 0 where
  pub front : left ≡ take (length left) (in_row d.listed)
  pub grown : Grown (heads (entries d)) (length (entries d) + 1) (length left + 1) (drop (length left) (entries d)) (nodes table) (reverse (in_row rules)) (items roots)
  pub slots : room roots ≡ 1024

-- the last of the lines that are left, with its index, where n lines stand before them
pub record Met (left less : List Listed) (x : Listed) (n k : ℕ) : Type 0 where
  pub last : left ≡ less ++ x ∷ []
  pub number : k ≡ n + length less
  pub none : n ≡ 0

-- each line is a rule's head or a goal
pub heads_for : (st : Statement) (es : List Entry) (s : ℕ) → goals_for st + length (heads (record { says = st; scope = s } ∷ es)) ≡ suc (length (heads es))
heads_for (a_rule p) es s = omega arith
heads_for (a_tell code k slots) es s = omega arith
heads_for an_and es s = omega arith
heads_for an_or es s = omega arith
heads_for a_new es s = omega arith
heads_for (a_call r slots) es s = omega arith

pub all_lines : (es : List Entry) → goals_in es + length (heads es) ≡ length es
all_lines [] = refl
all_lines (e ∷ es) = omega (arith, all_lines es, heads_for e.says es e.scope)

heads_more : (st : Statement) (es : List Entry) (s : ℕ) → length (heads es) ≤ length (heads (record { says = st; scope = s } ∷ es))
heads_more st es s = let one = heads (record { says = st; scope = s } ∷ []) in omega (arith, ap length (head_first st s es), length-append one (heads es))

pub heads_drop : (k : ℕ) (es : List Entry) → length (heads (drop k es)) ≤ length (heads es)
heads_drop zero es = omega arith
heads_drop (suc k) [] = omega arith
heads_drop (suc k) (e ∷ es) = omega (arith, heads_drop k es, heads_more e.says es e.scope)

pub goals_drop : (k : ℕ) (es : List Entry) → goals_in (drop k es) ≤ goals_in es
goals_drop zero es = omega arith
goals_drop (suc k) [] = omega arith
goals_drop (suc k) (e ∷ es) = omega (arith, goals_drop k es)

-- no call of lines that fit is at fault
pub fitting_at : (hs : List ℕ) (line : ℕ) (es : List Entry) (k : ℕ) (e : Entry) (more : List Entry) → misfit hs line es ≡ fitting → drop k es ≡ e ∷ more → call_fault_lem hs e.says ≡ None
fitting_at hs line [] zero e more f d = absurd (let z : ◌≡◌ {A = ℕ} 0 1 = cc in omega arith)
fitting_at hs line [] (suc k) e more f d = absurd (let z : ◌≡◌ {A = ℕ} 0 1 = cc in omega arith)
fitting_at hs line (x ∷ es) zero e more f d =
    let is : x ≡ e = cc in
    subst (λ (q : Entry). call_fault_lem hs q.says ≡ None) is (found_none hs line es (call_fault_lem hs x.says) (sym (found_is hs line es (call_fault_lem hs x.says)) ∙ f)).0
fitting_at hs line (x ∷ es) (suc k) e more f d = fitting_at hs (line + 1) es k e more (found_none hs line es (call_fault_lem hs x.says) (sym (found_is hs line es (call_fault_lem hs x.says)) ∙ f)).1 d

pub goal_line : (c : Line) → ((p : ℕ) → c ≡ RuleLine p → ⊥) → IsGoal c
goal_line (RuleLine p) no_rule = no_rule p refl
goal_line (TellLine t) no_rule = tt
goal_line AndLine no_rule = tt
goal_line OrLine no_rule = tt
goal_line NewLine no_rule = tt
goal_line (CallLine t) no_rule = tt

pub one_goal : (c : Line) → IsGoal c → goals_for (says c) ≡ 1
one_goal (RuleLine p) g = absurd g
one_goal (TellLine t) g = refl
one_goal AndLine g = refl
one_goal OrLine g = refl
one_goal NewLine g = refl
one_goal (CallLine t) g = refl

-- no goal waits for one above it where none is awaited
no_roots : (ns : List Node) (roots : List ℕ) (next : ℕ) → Rows ns 1 roots next → map (scope_at ns) roots ≡ [] → 1 ≡ next
no_roots ns [] next r e = r
no_roots ns (i ∷ is) next r e = absurd (let z : ◌≡◌ {A = ℕ} 0 1 = cc in omega arith)

-- the lines of a draft passed the check of a text
abbrev pub Passed : Draft → Type 0
Passed d = (ls : List (List ℕ)) × (check 1 start ls ≡ passed (entries d))

module _ (d : Draft) where
  -- so each was awaited in its turn
  in_turn : Passed d → Awaited [] (entries d)
  in_turn h = let p = passing 1 start h.0 (entries d) h.1 in subst (Awaited []) (sym p.entries) p.awaited

  pub entries_long : length (entries d) ≡ length (in_row d.listed)
  entries_long = length-map (in_row d.listed) entry_of

  pub heads_long : length (heads (entries d)) ≡ rules d
  heads_long = sym (ap length d.headed)

  -- each head is a line
  pub rules_few : rules d ≤ length (in_row d.listed)
  rules_few = omega (arith, all_lines (entries d), entries_long, heads_long)

  pub goals_few : goals_in (entries d) ≤ 1024
  goals_few = omega (arith, all_lines (entries d), entries_long, heads_long, d.few_goals)

  -- the line at an index, with those behind it
  pub line_here : (k : ℕ) (x : Listed) → k < length (in_row d.listed) → x ≡ get_or (in_row d.listed) k x → drop k (entries d) ≡ entry_of x ∷ drop (k + 1) (entries d)
  line_here k x h is =
      drop_more (entries d) k (entry_of x) (omega (arith, entries_long)) ∙ ap (λ e. e ∷ drop (k + 1) (entries d)) (get_or-map entry_of (in_row d.listed) k x (entry_of x) h ∙ ap entry_of (sym is))

  -- no line is in a table that is new
  pub built_start : (left : List Listed) (table : Table) (rs : ShortRow Rule 64) (roots : Stack ℕ) → left ≡ in_row d.listed → nodes table ≡ [] → in_row rs ≡ [] → items roots ≡ [] → room roots ≡ 1024 → Built d left table rs roots
  built_start left table rs roots all n l i r =
      let hs = heads (entries d) in
      let end = length (entries d) + 1 in
      let long : length (entries d) ≡ length left = entries_long ∙ sym (ap length all) in
      let none = drop_all (length left) (entries d) (omega arith) in
      record {
        front = all ∙ sym (take_all (length left) (in_row d.listed) (omega (arith, ap length all)));
        grown = transport (λ j. Grown hs end (long j + 1) (sym none j) (sym n j) (reverse (sym l j)) (sym i j)) (grown_none hs end);
        slots = r;
      }

  -- one line more, the last one of those that are left
  module _ {left less : List Listed} {x : Listed} {n k : ℕ} {table : Table} {rs : ShortRow Rule 64} {roots : Stack ℕ} (met : Met left less x n k) (was : Built d left table rs roots) where
    number : k ≡ length less
    number = omega (arith, met.number, met.none)

    long : length left ≡ k + 1
    long = omega (arith, ap length met.last, length_push less x)

    less_front : less ≡ take (length less) (in_row d.listed)
    less_front =
        sym (take_at less (x ∷ []) (length less) refl) ∙ ap (take (length less)) (sym met.last ∙ was.front) ∙ take-take (length less) (length left) (in_row d.listed) (omega (arith, long))

    inside : k < length (in_row d.listed)
    inside = omega (arith, long, ap length was.front, length-take (length left) (in_row d.listed))

    pub line_few : k < 1088
    line_few = omega (arith, inside, items_few d.listed)

    there : x ≡ get_or (in_row d.listed) k x
    there =
        sym (get_or_push less x x k (sym number)) ∙ ap (λ l. get_or l k x) (sym met.last ∙ was.front) ∙ get_or-take (length left) (in_row d.listed) k x (omega (arith, long))

    grown : Grown (heads (entries d)) (length (entries d) + 1) (k + 1 + 1) (drop (k + 1) (entries d)) (nodes table) (reverse (in_row rs)) (items roots)
    grown = subst (λ n. Grown (heads (entries d)) (length (entries d) + 1) (n + 1) (drop n (entries d)) (nodes table) (reverse (in_row rs)) (items roots)) long was.grown

    here : drop k (entries d) ≡ entry_of x ∷ drop (k + 1) (entries d)
    here = line_here k x inside there

    here_awaited : Passed d → (b : List ℕ) × Awaited b (entry_of x ∷ drop (k + 1) (entries d))
    here_awaited ok = let a = awaited_drop k [] (entries d) (in_turn ok) in (a.0, subst (Awaited a.0) here a.1)

    pub plants_here : Passed d → misfit (heads (entries d)) 1 (entries d) ≡ fitting → IsGoal x.line → Plants (heads (entries d)) (length (entries d) + 1) (k + 1) x.line x.scope (drop (k + 1) (entries d)) (nodes table) (reverse (in_row rs)) (items roots)
    plants_here ok fit g =
        plants (heads (entries d)) (length (entries d) + 1) (k + 1) x.scope (drop (k + 1) (entries d)) (nodes table) (reverse (in_row rs)) x.line (items roots) (here_awaited ok).0 g (fitting_at (heads (entries d)) 1 (entries d) k (entry_of x) (drop (k + 1) (entries d)) fit here) (here_awaited ok).1 grown

    pub room_here : IsGoal x.line → length (nodes table) < 1024
    room_here g =
        let few = goals_drop k (entries d) in
        let one = ap goals_in here in
        omega (arith, grown.nodes, goals_few, one_goal x.line g)

    pub goal_built : Passed d → misfit (heads (entries d)) 1 (entries d) ≡ fitting → (after : Table) (waits : Stack ℕ) → IsGoal x.line → nodes after ≡ nodes table ++ record { form = formed (items roots) x.line; scope = x.scope; line = k + 1 } ∷ [] → items waits ≡ length (nodes table) ∷ unused (items roots) x.line → room waits ≡ room roots → Built d less after rs waits
    goal_built ok fit after waits g added left same =
        record {
          front = less_front;
          grown = subst (λ n. Grown (heads (entries d)) (length (entries d) + 1) (n + 1) (drop n (entries d)) (nodes after) (reverse (in_row rs)) (items waits)) number (transport (λ j. Grown (heads (entries d)) (length (entries d) + 1) (k + 1) (sym here j) (sym added j) (reverse (in_row rs)) (sym left j)) (plants_here ok fit g).grows);
          slots = same ∙ was.slots;
        }

    module _ (p : ℕ) (is : x.line ≡ RuleLine p) where
      head_here : drop k (entries d) ≡ record { says = a_rule p; scope = x.scope } ∷ drop (k + 1) (entries d)
      head_here = here ∙ ap (λ c. record { says = says c; scope = x.scope } ∷ drop (k + 1) (entries d)) is

      pub rule_fits : length (in_row rs) < 64
      rule_fits =
          let few = heads_drop k (entries d) in
          let one = ap (λ es. length (heads es)) head_here in
          let made = ap length grown.headed in
          omega (arith, heads_of_length (reverse (in_row rs)), length-reverse (in_row rs), heads_long, items_few d.params)

      pub rule_built : Passed d → (after : ShortRow Rule 64) (waits : Stack ℕ) → in_row after ≡ in_row rs ++ record { params = p; goal = head (items roots) } ∷ [] → items waits ≡ tail (items roots) → room waits ≡ room roots → Built d less table after waits
      rule_built ok after waits pushed tails same =
          let r : Rule = record { params = p; goal = head (items roots) } in
          let more = ap reverse pushed ∙ reverse-append (in_row rs) (r ∷ []) in
          let awaits = subst (λ c. Awaited (here_awaited ok).0 (record { says = says c; scope = x.scope } ∷ drop (k + 1) (entries d))) is (here_awaited ok).1 in
          record {
            front = less_front;
            grown = subst (λ n. Grown (heads (entries d)) (length (entries d) + 1) (n + 1) (drop n (entries d)) (nodes table) (reverse (in_row after)) (items waits)) number (transport (λ j. Grown (heads (entries d)) (length (entries d) + 1) (k + 1) (sym head_here j) (nodes table) (sym more j) (sym tails j)) (heads_grown (heads (entries d)) (length (entries d) + 1) (k + 1) x.scope (drop (k + 1) (entries d)) (nodes table) (reverse (in_row rs)) p (items roots) (here_awaited ok).0 awaits grown));
            slots = same ∙ was.slots;
          }

  -- the rules of a table that has all lines
  module _ {left : List Listed} {table : Table} {met : ShortRow Rule 64} {roots : Stack ℕ} (was : Built d left table met roots) (none : length left ≡ 0) (rs : ShortRow Rule 64) (turned : in_row rs ≡ reverse (in_row met)) where
    all : Grown (heads (entries d)) (length (entries d) + 1) 1 (entries d) (nodes table) (in_row rs) (items roots)
    all = transport (λ i. Grown (heads (entries d)) (length (entries d) + 1) (none i + 1) (drop (none i) (entries d)) (nodes table) (sym turned i) (items roots)) was.grown

    pub all_rooted : Passed d → rooted (nodes table) (length (in_row rs) + length (nodes table) + 1) 1 (in_row rs) ≡ true
    all_rooted ok =
        let empty = no_roots (nodes table) (items roots) all.next all.rows (all.scopes [] (in_turn ok)) in
        let end : length (entries d) + 1 ≡ length (in_row rs) + length (nodes table) + 1 = omega (arith, all.nodes, all_lines (entries d), ap length all.headed, heads_of_length (in_row rs)) in
        transport (λ i. rooted (nodes table) (end i) (sym empty i) (in_row rs) ≡ true) all.rooting

    pub all_called : calls_fit (heads_of (in_row rs)) (nodes table) ≡ true
    all_called = subst (λ hs. calls_fit hs (nodes table) ≡ true) (sym all.headed) all.calls

    pub all_rules : rules_of (nodes table) (in_row rs) ≡ (forest (entries d)).rules
    all_rules = all.rules

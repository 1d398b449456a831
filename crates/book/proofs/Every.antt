-- Every book that can exist is a book: within the limits, and well formed. Assumes nothing.
use Rattle.std.proofs.Common.{◌≡◌, ℕ, zero, suc, ◌+◌, ◌<◌, ◌≤◌, true, ◌&&◌, eqb, ltb, leb, List, [], ◌∷◌, length, get_or, sym, refl, ap, ◌∙◌, subst, add-one, arith}
use Rattle.std.proofs.lemmas.Bool.{and_parts, eqb-true}
use Rattle.row.specs.Shorts.{items}
use Rattle.row.proofs.Shorts.{items_few}
use Rattle.line.specs.Statements.{AllSlots, InRange}
use Rattle.book.specs.declared.Book.{Book}
use Rattle.book.specs.declared.Form.{Form}
use Rattle.book.specs.declared.Form.TheVariants.{Tell, And, Or, New, Call}
use Rattle.book.specs.declared.Node.{Node}
use Rattle.book.specs.declared.Rule.{Rule}
use Rattle.book.specs.Language.{Goal, conj, disj, fresh, Rules, rule_at, size, total, Each, Fits, Shallow}
use Rattle.book.specs.Listing.{goal_lines, listing, IsBook}
use Rattle.book.specs.Meaning.{book_nodes, book_rules, meaning}
use Rattle.book.specs.Table.{goal_at, blank, no_rule, scope_at, line_at, part, nested, heads_of, calls_fit, rooted, rule_of, rules_of, Stands, Rooted}
use Rattle.book.proofs.Misfits.{each_append}
use Rattle.book.proofs.Walks.{stands, rooted_at, rules_length, rule_at_of}

-- slots that are in scope by their places
each_slot : (scope : ℕ) (xs : List ℕ) → ((j : ℕ) → j < length xs → get_or xs j 0 < scope) → Each (λ s. s < scope) xs
each_slot scope [] h = tt
each_slot scope (x ∷ xs) h = (h 0 (omega arith), each_slot scope xs (λ j l. h (suc j) (omega arith)))

sixteen : (scope : ℕ) (xs : List ℕ) → scope ≤ 16 → Each (λ s. s < scope) xs → AllSlots xs
sixteen scope [] l h = tt
sixteen scope (x ∷ xs) l h = (let a = h.0 in omega arith, sixteen scope xs l h.1)

-- a goal of a book, where so many slots are in scope
pub record Good (rules : Rules) (scope : ℕ) (g : Goal) : Type 0 where
  pub fits : Fits rules scope g
  pub shallow : Shallow scope g
  pub ranges : Each InRange (goal_lines g)

good_both : (rules : Rules) (scope : ℕ) (g h : Goal) → Good rules scope g → Good rules scope h → Good rules scope (conj g h)
good_both rules scope g h a b = record { fits = (a.fits, b.fits); shallow = (a.shallow, b.shallow); ranges = (tt, each_append InRange (goal_lines g) (goal_lines h) a.ranges b.ranges) }

good_either : (rules : Rules) (scope : ℕ) (g h : Goal) → Good rules scope g → Good rules scope h → Good rules scope (disj g h)
good_either rules scope g h a b = record { fits = (a.fits, b.fits); shallow = (a.shallow, b.shallow); ranges = (tt, each_append InRange (goal_lines g) (goal_lines h) a.ranges b.ranges) }

good_new : (rules : Rules) (scope : ℕ) (g : Goal) → scope < 16 → Good rules (scope + 1) g → Good rules scope (fresh g)
good_new rules scope g l a = let b = subst (λ s. Good rules s g) (add-one scope) a in record { fits = b.fits; shallow = (l, b.shallow); ranges = (tt, b.ranges) }

module _ (rs : List Rule) (ns : List Node) (few : length rs ≤ 64) (well : nested [] ns ≡ true) (fit : calls_fit (heads_of rs) ns ≡ true) where
  -- by what stands at node i, when all nodes before it are good
  good_by : (i : ℕ) (f : Form) → scope_at ns i ≤ 16 → Stands rs ns i f → ((a : ℕ) → a < i → scope_at ns a ≤ 16 → Good (rules_of ns rs) (scope_at ns a) (goal_at ns a)) → Good (rules_of ns rs) (scope_at ns i) (goal_at ns i)
  good_by i (Tell t) low s ih =
      let each = each_slot (scope_at ns i) (items t.slots) s.2.below in
      let few = s.2.few in
      subst (Good (rules_of ns rs) (scope_at ns i)) (sym s.3) (record { fits = each; shallow = tt; ranges = ((s.0, s.1, omega arith, sixteen (scope_at ns i) (items t.slots) low each), tt) })
  good_by i (And a b) low s ih = subst (Good (rules_of ns rs) (scope_at ns i)) (sym s.2) (good_both (rules_of ns rs) (scope_at ns i) (goal_at ns a) (goal_at ns b) (below a s.0.earlier s.0.scoped) (below b s.1.earlier s.1.scoped))
    where
      below : (j : ℕ) → j < i → scope_at ns j ≡ scope_at ns i → Good (rules_of ns rs) (scope_at ns i) (goal_at ns j)
      below j l e = subst (λ s. Good (rules_of ns rs) s (goal_at ns j)) e (ih j l (omega arith))
  good_by i (Or a b) low s ih = subst (Good (rules_of ns rs) (scope_at ns i)) (sym s.2) (good_either (rules_of ns rs) (scope_at ns i) (goal_at ns a) (goal_at ns b) (below a s.0.earlier s.0.scoped) (below b s.1.earlier s.1.scoped))
    where
      below : (j : ℕ) → j < i → scope_at ns j ≡ scope_at ns i → Good (rules_of ns rs) (scope_at ns i) (goal_at ns j)
      below j l e = subst (λ s. Good (rules_of ns rs) s (goal_at ns j)) e (ih j l (omega arith))
  good_by i (New a) low s ih = subst (Good (rules_of ns rs) (scope_at ns i)) (sym s.2) (good_new (rules_of ns rs) (scope_at ns i) (goal_at ns a) s.0 (subst (λ k. Good (rules_of ns rs) k (goal_at ns a)) s.1.scoped (ih a s.1.earlier (let e = s.1.scoped in let l = s.0 in omega arith))))
  good_by i (Call c) low s ih =
      let each = each_slot (scope_at ns i) (items c.slots) s.2.below in
      let inside = s.0 in
      let most = s.2.few in
      let same : (rule_at (rules_of ns rs) c.rule).params ≡ (get_or rs c.rule no_rule).params = ap (λ r. r.params) (rule_at_of ns rs c.rule s.0) in
      subst (Good (rules_of ns rs) (scope_at ns i)) (sym s.3) (record { fits = (omega (arith, rules_length ns rs), s.1 ∙ sym same, each); shallow = tt; ranges = ((omega arith, omega arith, sixteen (scope_at ns i) (items c.slots) low each), tt) })

  pub good_at : (fuel i : ℕ) → i < fuel → i < length ns → scope_at ns i ≤ 16 → Good (rules_of ns rs) (scope_at ns i) (goal_at ns i)
  good_at zero i l h low = absurd (omega arith)
  good_at (suc fuel) i l h low = good_by i (get_or ns i blank).form low (stands rs ns i well fit h) (λ a e. good_at fuel a (omega arith) (omega arith))

  -- each of some rules, which stand one behind the other
  record EachGood (qs : List Rule) : Type 0 where
    fits : Each (λ r. Fits (rules_of ns rs) r.params r.goal) (rules_of ns qs)
    shallow : Each (λ r. Shallow r.params r.goal) (rules_of ns qs)
    ranges : Each InRange (listing (rules_of ns qs))

  each_good : (end line : ℕ) (qs : List Rule) → rooted ns end line qs ≡ true → EachGood qs
  each_good end line [] ok = record { fits = tt; shallow = tt; ranges = tt }
  each_good end line (q ∷ qs) ok =
      let a = and_parts (leb q.params 16) (part ns q.goal q.params (line + 1) && rooted ns end (line + 1 + size (goal_at ns q.goal)) qs) ok in
      let b = and_parts (part ns q.goal q.params (line + 1)) (rooted ns end (line + 1 + size (goal_at ns q.goal)) qs) a.1 in
      let here = rooted_at ns end line (q ∷ qs) 0 ok (omega arith) in
      let low = here.0 in
      let scoped = here.2 in
      let good = subst (λ s. Good (rules_of ns rs) s (goal_at ns q.goal)) here.2 (good_at (length ns) q.goal here.1 here.1 (omega arith)) in
      let more = each_good end (line + 1 + size (goal_at ns q.goal)) qs b.1 in
      record { fits = (good.fits, more.fits); shallow = (good.shallow, more.shallow); ranges = (here.0, each_append InRange (goal_lines (goal_at ns q.goal)) (listing (rules_of ns qs)) good.ranges more.ranges) }

  -- the lines of rules that stand one behind the other
  pub all_written : (end line : ℕ) (qs : List Rule) → rooted ns end line qs ≡ true → line + length qs + total (rules_of ns qs) ≡ end
  all_written end line [] ok = let e = eqb-true line end ok in omega arith
  all_written end line (q ∷ qs) ok =
      let a = and_parts (leb q.params 16) (part ns q.goal q.params (line + 1) && rooted ns end (line + 1 + size (goal_at ns q.goal)) qs) ok in
      let b = and_parts (part ns q.goal q.params (line + 1)) (rooted ns end (line + 1 + size (goal_at ns q.goal)) qs) a.1 in
      omega (arith, all_written end (line + 1 + size (goal_at ns q.goal)) qs b.1)

pub every_book : (b : Book) → IsBook (meaning b)
every_book b =
    let ns = book_nodes b in
    let rs = book_rules b in
    let end = length rs + length ns + 1 in
    let few = items_few b.rules in
    let good = each_good rs ns few b.table.well b.well_called end 1 rs b.well_rooted in
    record {
      few_rules_lem = omega (arith, rules_length ns rs);
      few_goals_lem = omega (arith, all_written rs ns few b.table.well b.well_called end 1 rs b.well_rooted, items_few b.table.goals);
      ranges = good.ranges;
      shallow = good.shallow;
      fits = good.fits;
    }

-- a book's table has its goals, and no others
pub goals_all : (b : Book) → length (book_nodes b) ≡ total (meaning b)
goals_all b =
    let ns = book_nodes b in
    let rs = book_rules b in
    omega (arith, all_written rs ns (items_few b.rules) b.table.well b.well_called (length rs + length ns + 1) 1 rs b.well_rooted)

-- the line of rule r, when the first of these rules is on that line
abbrev rule_line_lem : List Node → ℕ → List Rule → ℕ → ℕ
rule_line_lem ns line [] r = line
rule_line_lem ns line (q ∷ qs) zero = line
rule_line_lem ns line (q ∷ qs) (suc r) = rule_line_lem ns (line + 1 + size (goal_at ns q.goal)) qs r

module _ (ns : List Node) (end : ℕ) where
  -- a rule's goal is on the next line, and the next rule behind the goal
  goal_line : (line : ℕ) (qs : List Rule) (r : ℕ) → rooted ns end line qs ≡ true → r < length qs → line_at ns (get_or qs r no_rule).goal ≡ rule_line_lem ns line qs r + 1
  goal_line line [] r ok h = absurd (omega arith)
  goal_line line (q ∷ qs) zero ok h =
      let a = and_parts (leb q.params 16) (part ns q.goal q.params (line + 1) && rooted ns end (line + 1 + size (goal_at ns q.goal)) qs) ok in
      let b = and_parts (part ns q.goal q.params (line + 1)) (rooted ns end (line + 1 + size (goal_at ns q.goal)) qs) a.1 in
      eqb-true _ _ (and_parts (eqb (scope_at ns q.goal) q.params) (eqb (line_at ns q.goal) (line + 1)) (and_parts (ltb q.goal (length ns)) _ b.0).1).1
  goal_line line (q ∷ qs) (suc r) ok h =
      let a = and_parts (leb q.params 16) (part ns q.goal q.params (line + 1) && rooted ns end (line + 1 + size (goal_at ns q.goal)) qs) ok in
      let b = and_parts (part ns q.goal q.params (line + 1)) (rooted ns end (line + 1 + size (goal_at ns q.goal)) qs) a.1 in
      goal_line (line + 1 + size (goal_at ns q.goal)) qs r b.1 (omega arith)

  next_line_lem : (line : ℕ) (qs : List Rule) (r : ℕ) → r < length qs → rule_line_lem ns line qs (suc r) ≡ rule_line_lem ns line qs r + 1 + size (goal_at ns (get_or qs r no_rule).goal)
  next_line_lem line [] r h = absurd (omega arith)
  next_line_lem line (q ∷ []) zero h = refl
  next_line_lem line (q ∷ p ∷ qs) zero h = refl
  next_line_lem line (q ∷ qs) (suc r) h = next_line_lem (line + 1 + size (goal_at ns q.goal)) qs r (omega arith)

  last_line : (line : ℕ) (qs : List Rule) (r : ℕ) → rooted ns end line qs ≡ true → length qs ≤ r → rule_line_lem ns line qs r ≡ end
  last_line line [] r ok h = eqb-true line end ok
  last_line line (q ∷ qs) zero ok h = absurd (omega arith)
  last_line line (q ∷ qs) (suc r) ok h =
      let a = and_parts (leb q.params 16) (part ns q.goal q.params (line + 1) && rooted ns end (line + 1 + size (goal_at ns q.goal)) qs) ok in
      let b = and_parts (part ns q.goal q.params (line + 1)) (rooted ns end (line + 1 + size (goal_at ns q.goal)) qs) a.1 in
      last_line (line + 1 + size (goal_at ns q.goal)) qs r b.1 (omega arith)

-- how many goals a rule has, by the lines on which it and the next begin
module _ (b : Book) (r : ℕ) (h : r < length (book_rules b)) where
  size_here : size (rule_at (meaning b) r).goal ≡ size (goal_at (book_nodes b) (get_or (book_rules b) r no_rule).goal)
  size_here = ap (λ q. size q.goal) (rule_at_of (book_nodes b) (book_rules b) r h)

  pub size_between : r + 1 < length (book_rules b) → line_at (book_nodes b) (get_or (book_rules b) r no_rule).goal + 1 + size (rule_at (meaning b) r).goal ≡ line_at (book_nodes b) (get_or (book_rules b) (r + 1) no_rule).goal
  size_between more =
      let ns = book_nodes b in
      let rs = book_rules b in
      let end = length rs + length ns + 1 in
      let e : suc r ≡ r + 1 = omega arith in
      let next = next_line_lem ns end 1 rs r h in
      let here = goal_line ns end 1 rs r b.well_rooted h in
      let there = ap (λ k. line_at ns (get_or rs k no_rule).goal) (sym e) ∙ goal_line ns end 1 rs (suc r) b.well_rooted (omega arith) in
      omega (arith, size_here)

  pub next_below : r + 1 < length (book_rules b) → 1 ≤ line_at (book_nodes b) (get_or (book_rules b) (r + 1) no_rule).goal
  next_below more = omega (arith, size_between more)

  pub size_last : length (book_rules b) ≤ r + 1 → line_at (book_nodes b) (get_or (book_rules b) r no_rule).goal + size (rule_at (meaning b) r).goal ≡ length (book_rules b) + length (book_nodes b) + 1
  size_last last =
      let ns = book_nodes b in
      let rs = book_rules b in
      let end = length rs + length ns + 1 in
      let next = next_line_lem ns end 1 rs r h in
      let here = goal_line ns end 1 rs r b.well_rooted h in
      let there = last_line ns end 1 rs (suc r) b.well_rooted (omega arith) in
      omega (arith, size_here)

-- what a book says of one goal and of one rule
module _ (b : Book) where
  pub stands_in : (i : ℕ) → i < length (book_nodes b) → Stands (book_rules b) (book_nodes b) i (get_or (book_nodes b) i blank).form
  stands_in i h = stands (book_rules b) (book_nodes b) i b.table.well b.well_called h

  pub rooted_in : (r : ℕ) → r < length (book_rules b) → Rooted (book_nodes b) (get_or (book_rules b) r no_rule)
  rooted_in r h = rooted_at (book_nodes b) (length (book_rules b) + length (book_nodes b) + 1) 1 (book_rules b) r b.well_rooted h

  pub meant_in : (r : ℕ) → r < length (book_rules b) → rule_at (meaning b) r ≡ rule_of (book_nodes b) (get_or (book_rules b) r no_rule)
  meant_in r h = rule_at_of (book_nodes b) (book_rules b) r h

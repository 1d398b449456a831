-- What a well-formed table says of one node and of one rule. Assumes nothing.
use Rattle.std.proofs.Common.{◌≡◌, ℕ, zero, suc, ◌+◌, ◌<◌, true, ◌&&◌, eqb, ltb, leb, List, [], ◌∷◌, ◌++◌, length, get_or, take, sym, refl, ap, ◌∙◌, subst, append_assoc, append-nil, arith}
use Rattle.std.proofs.lemmas.List.{length_push, length-take, take_all, take-take, take_at, get_or-take, get_or_push}
use Rattle.std.proofs.lemmas.Bool.{and_parts, ltb-true, leb-true, eqb-true}
use Rattle.row.specs.declared.ShortRow.{ShortRow}
use Rattle.row.specs.Shorts.{items}
use Rattle.numeral.specs.Reads.{size as magnitude}
use Rattle.book.specs.declared.Form.{Form}
use Rattle.book.specs.declared.Form.TheVariants.{Tell, And, Or, New, Call}
use Rattle.book.specs.declared.Node.{Node}
use Rattle.book.specs.declared.Rule.{Rule}
use Rattle.book.specs.Language.{Goal, conj, disj, fresh, nothing, size, rule_at}
use Rattle.book.specs.Table.{grown, goals_of, goal_at, blank, no_rule, scope_at, line_at, part, all_below, slots_fit, form_fits, nested, heads_of, call_fits, calls_fit, rooted, rule_of, rules_of, InScope, Below, Stands, Rooted}

pub under : {A : Type 0} (n i : ℕ) (xs : List A) → i < length (take n xs) → i < n
under n i xs h = omega (arith, length-take n xs)

each_below : (s : ℕ) (xs : List ℕ) (j : ℕ) → all_below s xs ≡ true → j < length xs → get_or xs j 0 < s
each_below s [] j ok h = absurd (omega arith)
each_below s (x ∷ xs) zero ok h = ltb-true _ _ (and_parts _ _ ok).0
each_below s (x ∷ xs) (suc j) ok h = each_below s xs j (and_parts _ _ ok).1 (omega arith)

slots_stand : {N : ℕ} (most scope : ℕ) (s : ShortRow ℕ N) → slots_fit most scope s ≡ true → InScope most scope s
slots_stand most scope s ok =
    let a = and_parts (leb (length (items s)) most) (all_below scope (items s)) ok in
    record { few = leb-true _ _ a.0; below = λ j h. each_below scope (items s) j a.1 h }

-- the goals before are not changed by those behind
pub take_goals : (p : List Goal) (ns : List Node) → take (length p) (goals_of p ns) ≡ p
take_goals p [] = take_all (length p) p (omega arith)
take_goals p (n ∷ ns) =
    let x = grown p n.form in
    let q = p ++ grown p n.form ∷ [] in
    let long = length_push p (grown p n.form) in
    sym (take-take (length p) (length q) (goals_of q ns) (omega arith)) ∙ ap (take (length p)) (take_goals q ns) ∙ take_at p (x ∷ []) (length p) refl

-- a node's goal is made of those before it
pub goal_made : (p : List Goal) (ns : List Node) (i k : ℕ) → k ≡ length p + i → i < length ns → get_or (goals_of p ns) k nothing ≡ grown (take k (goals_of p ns)) (get_or ns i blank).form
goal_made p [] i k e h = absurd (omega arith)
goal_made p (n ∷ ns) zero k e h =
    let q = p ++ grown p n.form ∷ [] in
    let long = length_push p (grown p n.form) in
    let is : k ≡ length p = omega arith in
    let whole = take_goals q ns in
    let at : get_or (goals_of q ns) k nothing ≡ grown p n.form = sym (get_or-take (length q) (goals_of q ns) k nothing (omega arith)) ∙ ap (λ l. get_or l k nothing) whole ∙ get_or_push p (grown p n.form) nothing k (sym is) in
    at ∙ ap (λ l. grown l n.form) (sym (take_goals p (n ∷ ns)) ∙ ap (λ j. take j (goals_of q ns)) (sym is))
goal_made p (n ∷ ns) (suc i) k e h =
    let long = length_push p (grown p n.form) in
    goal_made (p ++ grown p n.form ∷ []) ns i k (omega arith) (omega arith)

pub nested_at : (p ns : List Node) (i : ℕ) → nested p ns ≡ true → i < length ns → form_fits (p ++ take i ns) (get_or ns i blank).scope (get_or ns i blank).line (get_or ns i blank).form ≡ true
nested_at p [] i ok h = absurd (omega arith)
nested_at p (n ∷ ns) zero ok h = subst (λ l. form_fits l n.scope n.line n.form ≡ true) (sym (append-nil p)) (and_parts (form_fits p n.scope n.line n.form) (nested (p ++ n ∷ []) ns) ok).0
nested_at p (n ∷ ns) (suc i) ok h =
    subst (λ l. form_fits l (get_or ns i blank).scope (get_or ns i blank).line (get_or ns i blank).form ≡ true) (append_assoc p (n ∷ []) (take i ns)) (nested_at (p ++ n ∷ []) ns i (and_parts (form_fits p n.scope n.line n.form) (nested (p ++ n ∷ []) ns) ok).1 (omega arith))

-- the goals of a front of the table are a front of its goals
pub goals_take : (p : List Goal) (ns : List Node) (i : ℕ) → goals_of p (take i ns) ≡ take (length p + i) (goals_of p ns)
goals_take p ns zero = sym (let e : length p + 0 ≡ length p = omega arith in ap (λ k. take k (goals_of p ns)) e ∙ take_goals p ns)
goals_take p [] (suc i) = sym (take_all (length p + suc i) p (omega arith))
goals_take p (n ∷ ns) (suc i) =
    let long = length_push p (grown p n.form) in
    let e : length (p ++ grown p n.form ∷ []) + i ≡ length p + suc i = omega arith in
    goals_take (p ++ grown p n.form ∷ []) ns i ∙ ap (λ k. take k (goals_of (p ++ grown p n.form ∷ []) ns)) e

pub goal_take : (ns : List Node) (i a : ℕ) → a < i → goal_at (take i ns) a ≡ goal_at ns a
goal_take ns i a h =
    let e : 0 + i ≡ i = omega arith in
    ap (λ l. get_or l a nothing) (goals_take [] ns i ∙ ap (λ k. take k (goals_of [] ns)) e) ∙ get_or-take i (goals_of [] ns) a nothing h

-- a part of node i
pub part_below : (ns : List Node) (i a scope line : ℕ) → part (take i ns) a scope line ≡ true → Below ns i a scope line
part_below ns i a scope line h =
    let p = and_parts (ltb a (length (take i ns))) (eqb (scope_at (take i ns) a) scope && eqb (line_at (take i ns) a) line) h in
    let q = and_parts (eqb (scope_at (take i ns) a) scope) (eqb (line_at (take i ns) a) line) p.1 in
    let lt : a < length (take i ns) = ltb-true _ _ p.0 in
    let first : a < i = under i a ns lt in
    let same = get_or-take i ns a blank first in
    record { earlier = first; scoped = ap (λ (m : Node). m.scope) (sym same) ∙ eqb-true _ scope q.0; lined = ap (λ (m : Node). m.line) (sym same) ∙ eqb-true _ line q.1 }

-- both parts of node i
two_below : (ns : List Node) (i a b scope line : ℕ) → part (take i ns) a scope (line + 1) && part (take i ns) b scope (line + 1 + size (goal_at (take i ns) a)) ≡ true → Below ns i a scope (line + 1) × Below ns i b scope (line + 1 + size (goal_at ns a))
two_below ns i a b scope line ok =
    let p = and_parts (part (take i ns) a scope (line + 1)) (part (take i ns) b scope (line + 1 + size (goal_at (take i ns) a))) ok in
    let x = part_below ns i a scope (line + 1) p.0 in
    let same = goal_take ns i a x.earlier in
    (x, part_below ns i b scope (line + 1 + size (goal_at ns a)) (subst (λ g. part (take i ns) b scope (line + 1 + size g) ≡ true) same p.1))

pub heads_length : (rs : List Rule) → length (heads_of rs) ≡ length rs
heads_length [] = refl
heads_length (r ∷ rs) = ap suc (heads_length rs)

pub heads_at : (rs : List Rule) (r : ℕ) → get_or (heads_of rs) r 0 ≡ (get_or rs r no_rule).params
heads_at [] r = refl
heads_at (q ∷ rs) zero = refl
heads_at (q ∷ rs) (suc r) = heads_at rs r

stands_at : (rs : List Rule) (ns : List Node) (i : ℕ) (f : Form) → form_fits (take i ns) (scope_at ns i) (line_at ns i) f ≡ true → call_fits (heads_of rs) f ≡ true → goal_at ns i ≡ grown (take i (goals_of [] ns)) f → Stands rs ns i f
stands_at rs ns i (Tell t) ok fits g =
    let b = and_parts (leb t.code 255) (leb (magnitude t.k) 1000 && slots_fit 3 (scope_at ns i) t.slots) ok in
    let a = and_parts (leb (magnitude t.k) 1000) (slots_fit 3 (scope_at ns i) t.slots) b.1 in
    (leb-true _ _ b.0, leb-true _ _ a.0, slots_stand 3 (scope_at ns i) t.slots a.1, g)
stands_at rs ns i (And a b) ok fits g =
    let p = two_below ns i a b (scope_at ns i) (line_at ns i) ok in
    (p.0, p.1, g ∙ (λ t. conj (get_or-take i (goals_of [] ns) a nothing p.0.earlier t) (get_or-take i (goals_of [] ns) b nothing p.1.earlier t)))
stands_at rs ns i (Or a b) ok fits g =
    let p = two_below ns i a b (scope_at ns i) (line_at ns i) ok in
    (p.0, p.1, g ∙ (λ t. disj (get_or-take i (goals_of [] ns) a nothing p.0.earlier t) (get_or-take i (goals_of [] ns) b nothing p.1.earlier t)))
stands_at rs ns i (New a) ok fits g =
    let p = and_parts (ltb (scope_at ns i) 16) (part (take i ns) a (scope_at ns i + 1) (line_at ns i + 1)) ok in
    let x = part_below ns i a (scope_at ns i + 1) (line_at ns i + 1) p.1 in
    (ltb-true _ _ p.0, x, g ∙ ap fresh (get_or-take i (goals_of [] ns) a nothing x.earlier))
stands_at rs ns i (Call c) ok fits g =
    let f = and_parts (ltb c.rule (length (heads_of rs))) (eqb (length (items c.slots)) (get_or (heads_of rs) c.rule 0)) fits in
    let inside : c.rule < length (heads_of rs) = ltb-true _ _ f.0 in
    (omega (arith, heads_length rs), eqb-true _ _ f.1 ∙ heads_at rs c.rule, slots_stand 16 (scope_at ns i) c.slots ok, g)

pub calls_fit_at : (heads : List ℕ) (ns : List Node) (i : ℕ) → calls_fit heads ns ≡ true → call_fits heads (get_or ns i blank).form ≡ true
calls_fit_at heads [] i ok = refl
calls_fit_at heads (n ∷ ns) zero ok = (and_parts (call_fits heads n.form) (calls_fit heads ns) ok).0
calls_fit_at heads (n ∷ ns) (suc i) ok = calls_fit_at heads ns i (and_parts (call_fits heads n.form) (calls_fit heads ns) ok).1

pub stands : (rs : List Rule) (ns : List Node) (i : ℕ) → nested [] ns ≡ true → calls_fit (heads_of rs) ns ≡ true → i < length ns → Stands rs ns i (get_or ns i blank).form
stands rs ns i well fits h = stands_at rs ns i (get_or ns i blank).form (nested_at [] ns i well h) (calls_fit_at (heads_of rs) ns i fits) (goal_made [] ns i i (omega arith) h)

pub rooted_at : (ns : List Node) (end line : ℕ) (rs : List Rule) (r : ℕ) → rooted ns end line rs ≡ true → r < length rs → Rooted ns (get_or rs r no_rule)
rooted_at ns end line [] r ok h = absurd (omega arith)
rooted_at ns end line (q ∷ rs) zero ok h =
    let a = and_parts (leb q.params 16) _ ok in
    let b = and_parts (part ns q.goal q.params (line + 1)) _ a.1 in
    let c = and_parts (ltb q.goal (length ns)) _ b.0 in
    let d = and_parts (eqb (scope_at ns q.goal) q.params) _ c.1 in
    (leb-true _ _ a.0, ltb-true _ _ c.0, eqb-true _ _ d.0)
rooted_at ns end line (q ∷ rs) (suc r) ok h =
    let a = and_parts (leb q.params 16) _ ok in
    let b = and_parts (part ns q.goal q.params (line + 1)) _ a.1 in
    rooted_at ns end (line + 1 + size (goal_at ns q.goal)) rs r b.1 (omega arith)

pub rules_length : (ns : List Node) (rs : List Rule) → length (rules_of ns rs) ≡ length rs
rules_length ns [] = refl
rules_length ns (r ∷ rs) = ap suc (rules_length ns rs)

pub rule_at_of : (ns : List Node) (rs : List Rule) (r : ℕ) → r < length rs → rule_at (rules_of ns rs) r ≡ rule_of ns (get_or rs r no_rule)
rule_at_of ns [] r h = absurd (omega arith)
rule_at_of ns (q ∷ rs) zero h = refl
rule_at_of ns (q ∷ rs) (suc r) h = rule_at_of ns rs r (omega arith)

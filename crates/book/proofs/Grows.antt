-- One node more in a table: what the table had, it has. Assumes nothing.
use Rattle.std.proofs.Common.{◌≡◌, ℕ, ◌+◌, ◌<◌, true, ◌&&◌, eqb, ltb, List, [], ◌∷◌, ◌++◌, length, get_or, sym, refl, ap, ◌∙◌, subst, append_assoc, append-nil, arith}
use Rattle.std.proofs.lemmas.List.{length-append, length_push, get_or_append_left, get_or_push}
use Rattle.std.proofs.lemmas.Bool.{and_parts, and_from, ltb-true, lt-ltb}
use Rattle.book.specs.declared.Node.{Node}
use Rattle.book.specs.declared.Rule.{Rule}
use Rattle.book.specs.Language.{Goal, nothing, size}
use Rattle.book.specs.Table.{grown, goals_of, goal_at, blank, scope_at, line_at, part, form_fits, nested, call_fits, calls_fit, rooted, rules_of}

pub nested_more : (before ns : List Node) (n : Node) → nested before ns ≡ true → form_fits (before ++ ns) n.scope n.line n.form ≡ true → nested before (ns ++ n ∷ []) ≡ true
nested_more before [] n a b = and_from _ _ (subst (λ l. form_fits l n.scope n.line n.form ≡ true) (append-nil before) b) refl
nested_more before (x ∷ ns) n a b =
    let p = and_parts (form_fits before x.scope x.line x.form) (nested (before ++ x ∷ []) ns) a in
    and_from _ _ p.0 (nested_more (before ++ x ∷ []) ns n p.1 (subst (λ l. form_fits l n.scope n.line n.form ≡ true) (sym (append_assoc before (x ∷ []) ns)) b))

pub goals_more : (before : List Goal) (ns : List Node) (n : Node) → goals_of before (ns ++ n ∷ []) ≡ goals_of before ns ++ grown (goals_of before ns) n.form ∷ []
goals_more before [] n = refl
goals_more before (x ∷ ns) n = goals_more (before ++ grown before x.form ∷ []) ns n

pub goals_length : (before : List Goal) (ns : List Node) → length (goals_of before ns) ≡ length before + length ns
goals_length before [] = omega arith
goals_length before (x ∷ ns) = let e = length-append before (grown before x.form ∷ []) in omega (arith, goals_length (before ++ grown before x.form ∷ []) ns)

module _ (ns : List Node) (n : Node) where
  pub goal_kept : (i : ℕ) → i < length ns → goal_at (ns ++ n ∷ []) i ≡ goal_at ns i
  goal_kept i h = ap (λ l. get_or l i nothing) (goals_more [] ns n) ∙ get_or_append_left (goals_of [] ns) (grown (goals_of [] ns) n.form ∷ []) nothing i (omega (arith, goals_length [] ns))

  pub goal_new : goal_at (ns ++ n ∷ []) (length ns) ≡ grown (goals_of [] ns) n.form
  goal_new = ap (λ l. get_or l (length ns) nothing) (goals_more [] ns n) ∙ get_or_push (goals_of [] ns) (grown (goals_of [] ns) n.form) nothing (length ns) (let l = goals_length [] ns in omega arith)

  pub node_kept : (i : ℕ) → i < length ns → get_or (ns ++ n ∷ []) i blank ≡ get_or ns i blank
  node_kept i h = get_or_append_left ns (n ∷ []) blank i h

  pub node_new : get_or (ns ++ n ∷ []) (length ns) blank ≡ n
  node_new = get_or_push ns n blank (length ns) refl

  pub part_kept : (i scope line : ℕ) → part ns i scope line ≡ true → part (ns ++ n ∷ []) i scope line ≡ true
  part_kept i scope line h =
      let p = and_parts (ltb i (length ns)) (eqb (scope_at ns i) scope && eqb (line_at ns i) line) h in
      let lt : i < length ns = ltb-true _ _ p.0 in
      let long = length_push ns n in
      and_from _ _ (lt-ltb i (length (ns ++ n ∷ [])) (omega arith)) (subst (λ (m : Node). eqb m.scope scope && eqb m.line line ≡ true) (sym (node_kept i lt)) p.1)

  pub rooted_kept : (end line : ℕ) (rs : List Rule) → rooted ns end line rs ≡ true → rooted (ns ++ n ∷ []) end line rs ≡ true
  rooted_kept end line [] h = h
  rooted_kept end line (r ∷ rs) h =
      let a = and_parts _ (part ns r.goal r.params (line + 1) && rooted ns end (line + 1 + size (goal_at ns r.goal)) rs) h in
      let b = and_parts (part ns r.goal r.params (line + 1)) (rooted ns end (line + 1 + size (goal_at ns r.goal)) rs) a.1 in
      let lt : r.goal < length ns = ltb-true _ _ (and_parts (ltb r.goal (length ns)) _ b.0).0 in
      and_from _ _ a.0 (and_from _ _ (part_kept r.goal r.params (line + 1) b.0) (rooted_kept end (line + 1 + size (goal_at (ns ++ n ∷ []) r.goal)) rs (subst (λ g. rooted ns end (line + 1 + size g) rs ≡ true) (sym (goal_kept r.goal lt)) b.1)))

  pub rules_kept : (end line : ℕ) (rs : List Rule) → rooted ns end line rs ≡ true → rules_of (ns ++ n ∷ []) rs ≡ rules_of ns rs
  rules_kept end line [] h = refl
  rules_kept end line (r ∷ rs) h =
      let a = and_parts _ (part ns r.goal r.params (line + 1) && rooted ns end (line + 1 + size (goal_at ns r.goal)) rs) h in
      let b = and_parts (part ns r.goal r.params (line + 1)) (rooted ns end (line + 1 + size (goal_at ns r.goal)) rs) a.1 in
      let lt : r.goal < length ns = ltb-true _ _ (and_parts (ltb r.goal (length ns)) _ b.0).0 in
      λ i. record { params = r.params; goal = goal_kept r.goal lt i } ∷ rules_kept end (line + 1 + size (goal_at ns r.goal)) rs b.1 i

pub calls_more : (heads : List ℕ) (ns : List Node) (n : Node) → calls_fit heads ns ≡ true → call_fits heads n.form ≡ true → calls_fit heads (ns ++ n ∷ []) ≡ true
calls_more heads [] n a b = and_from _ _ b refl
calls_more heads (x ∷ ns) n a b =
    let p = and_parts (call_fits heads x.form) (calls_fit heads ns) a in
    and_from _ _ p.0 (calls_more heads ns n p.1 b)

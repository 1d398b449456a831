-- What a table of goals stands for, and when it is well formed: the goals below a node stand before it. Assumes nothing.
--
--   grown       the goal of a node, from those before it
--   goals_of    the goals of the nodes, in order
--   goal_at     the goal of the node at an index
--   scope_at    how many slots are in scope of it
--   line_at     the line on which it is written
--   nested      each node's parts are before it, with the right scopes and lines
--   heads_of    how many parameters each rule has
--   calls_fit   each call names a rule and gives it as many slots as it takes
--   rule_of     a rule with its goal
--   rules_of    the book
--   rooted      each rule has its goal, and the rules stand one behind the other in the text, up to its end
--   Stands      what holds of a node in a well-formed table, for whoever walks it
--   Rooted      what holds of a rule
use Rattle.std.specs.Prelude.{◌≡◌, ℕ, ◌+◌, ◌<◌, ◌≤◌, Bool, true, ◌&&◌, List, [], ◌∷◌, ◌++◌, length, get_or, pos, refl, ◌==◌, nat_le, nat_lt, slice_index, slice_index_or}
use Rattle.std.proofs.Common.{lit≤}
use Rattle.row.specs.declared.ShortRow.{ShortRow}
use Rattle.row.specs.Shorts.{items}
use Rattle.numeral.specs.Reads.{size as magnitude}
use Rattle.book.specs.declared.Form.{Form}
use Rattle.book.specs.declared.Form.TheVariants.{Tell, And, Or, New, Call}
use Rattle.book.specs.declared.Node.{Node}
use Rattle.book.specs.declared.Rule.{Rule}
use Rattle.book.specs.Language as L
use Rattle.book.specs.Language.{Goal, tell, conj, disj, fresh, call, nothing, size, Rules}

abbrev pub grown : List Goal → Form → Goal
grown before (Tell t) = tell t.code t.k (items t.slots)
grown before (And a b) = conj (slice_index_or before a nothing) (slice_index_or before b nothing)
grown before (Or a b) = disj (slice_index_or before a nothing) (slice_index_or before b nothing)
grown before (New a) = fresh (slice_index_or before a nothing)
grown before (Call c) = call c.rule (items c.slots)

abbrev pub goals_of : List Goal → List Node → List Goal
goals_of before [] = before
goals_of before (n ∷ ns) = goals_of (before ++ grown before n.form ∷ []) ns

abbrev pub goal_at : List Node → ℕ → Goal
goal_at ns i = slice_index_or (goals_of [] ns) i nothing

-- what an array of nodes gives past its end
abbrev pub blank : Node
blank = record { form = Tell (record { code = 0; k = pos 0; slots = record { places = 0 ∷ 0 ∷ 0 ∷ []; len = 0; short = lit≤ tt; whole = refl; few = lit≤ tt } }); scope = 0; line = 0 }

abbrev pub no_rule : Rule
no_rule = record { params = 0; goal = 0 }

abbrev pub scope_at : List Node → ℕ → ℕ
scope_at ns i = (get_or ns i blank).scope

abbrev pub line_at : List Node → ℕ → ℕ
line_at ns i = (get_or ns i blank).line

-- node i is there, with so many slots in scope, on that line
abbrev pub part : List Node → ℕ → ℕ → ℕ → Bool
part ns i scope line = nat_lt i (length ns) && (scope_at ns i == scope && line_at ns i == line)

-- each is one of the slots in scope
abbrev pub all_below : ℕ → List ℕ → Bool
all_below scope [] = true
all_below scope (x ∷ xs) = nat_lt x scope && all_below scope xs

abbrev pub slots_fit : {N : ℕ} → ℕ → ℕ → ShortRow ℕ N → Bool
slots_fit most scope s = nat_le (length (items s)) most && all_below scope (items s)

abbrev pub form_fits : List Node → ℕ → ℕ → Form → Bool
form_fits ns scope line (Tell t) = nat_le t.code 255 && (nat_le (magnitude t.k) 1000 && slots_fit 3 scope t.slots)
form_fits ns scope line (And a b) = part ns a scope (line + 1) && part ns b scope (line + 1 + size (goal_at ns a))
form_fits ns scope line (Or a b) = part ns a scope (line + 1) && part ns b scope (line + 1 + size (goal_at ns a))
form_fits ns scope line (New a) = nat_lt scope 16 && part ns a (scope + 1) (line + 1)
form_fits ns scope line (Call c) = slots_fit 16 scope c.slots

abbrev pub nested : List Node → List Node → Bool
nested before [] = true
nested before (n ∷ ns) = form_fits before n.scope n.line n.form && nested (before ++ n ∷ []) ns

abbrev pub heads_of : List Rule → List ℕ
heads_of [] = []
heads_of (r ∷ rs) = r.params ∷ heads_of rs

abbrev pub call_fits : List ℕ → Form → Bool
call_fits heads (Tell t) = true
call_fits heads (And a b) = true
call_fits heads (Or a b) = true
call_fits heads (New a) = true
call_fits heads (Call c) = nat_lt c.rule (length heads) && length (items c.slots) == slice_index heads c.rule

abbrev pub calls_fit : List ℕ → List Node → Bool
calls_fit heads [] = true
calls_fit heads (n ∷ ns) = call_fits heads n.form && calls_fit heads ns

-- the first of these rules is written on that line, and the last one's goal ends before the line `end`
abbrev pub rooted : List Node → ℕ → ℕ → List Rule → Bool
rooted ns end line [] = line == end
rooted ns end line (r ∷ rs) = nat_le r.params 16 && (part ns r.goal r.params (line + 1) && rooted ns end (line + 1 + size (goal_at ns r.goal)) rs)

-- a rule with the goal that its nodes make
abbrev pub rule_of : List Node → Rule → L.Rule
rule_of ns r = record { params = r.params; goal = goal_at ns r.goal }

abbrev pub rules_of : List Node → List Rule → Rules
rules_of ns [] = []
rules_of ns (r ∷ rs) = rule_of ns r ∷ rules_of ns rs

-- slots that a goal may have, where so many are in scope
pub record InScope {N : ℕ} (most scope : ℕ) (s : ShortRow ℕ N) : Type 0 where
  pub few : length (items s) ≤ most
  pub below : (j : ℕ) → j < length (items s) → slice_index (items s) j < scope

-- node a is before node i, with so many slots in scope, on that line
pub record Below (ns : List Node) (i a scope line : ℕ) : Type 0 where
  pub earlier : a < i
  pub scoped : scope_at ns a ≡ scope
  pub lined : line_at ns a ≡ line

abbrev pub Stands : List Rule → List Node → ℕ → Form → Type 0
Stands rs ns i (Tell t) = (t.code ≤ 255) × (magnitude t.k ≤ 1000) × InScope 3 (scope_at ns i) t.slots × (goal_at ns i ≡ tell t.code t.k (items t.slots))
Stands rs ns i (And a b) = Below ns i a (scope_at ns i) (line_at ns i + 1) × Below ns i b (scope_at ns i) (line_at ns i + 1 + size (goal_at ns a)) × (goal_at ns i ≡ conj (goal_at ns a) (goal_at ns b))
Stands rs ns i (Or a b) = Below ns i a (scope_at ns i) (line_at ns i + 1) × Below ns i b (scope_at ns i) (line_at ns i + 1 + size (goal_at ns a)) × (goal_at ns i ≡ disj (goal_at ns a) (goal_at ns b))
Stands rs ns i (New a) = (scope_at ns i < 16) × Below ns i a (scope_at ns i + 1) (line_at ns i + 1) × (goal_at ns i ≡ fresh (goal_at ns a))
Stands rs ns i (Call c) = (c.rule < length rs) × (length (items c.slots) ≡ (get_or rs c.rule no_rule).params) × InScope 16 (scope_at ns i) c.slots × (goal_at ns i ≡ call c.rule (items c.slots))

abbrev pub Rooted : List Node → Rule → Type 0
Rooted ns r = (r.params ≤ 16) × (r.goal < length ns) × (scope_at ns r.goal ≡ r.params)

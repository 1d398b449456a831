-- How a book is written, and which books there are. Assumes nothing.
--
--   goal_lines   the lines of a goal: it, and then the goals below it
--   listing      the lines of a book
--   canonical    the text of a book, with a newline behind each line
--   Writes       a text is that text, or that text without its last newline
--   IsBook       the rules are within the limits and fit together
use Rattle.std.specs.Prelude.{◌≡◌, ℕ, ◌≤◌, ◌⊎◌, List, [], ◌∷◌, ◌++◌, map, length}
use Rattle.fields.specs.Cutting.{newline, joined, ended}
use Rattle.line.specs.Statements.{Statement, a_rule, a_tell, an_and, an_or, a_new, a_call, words, InRange}
use Rattle.book.specs.Language.{Goal, tell, conj, disj, fresh, call, Rules, total, Each, WellFormed, Shallow}

abbrev pub goal_lines : Goal → List Statement
goal_lines (tell code k slots) = a_tell code k slots ∷ []
goal_lines (conj g h) = an_and ∷ (goal_lines g ++ goal_lines h)
goal_lines (disj g h) = an_or ∷ (goal_lines g ++ goal_lines h)
goal_lines (fresh g) = a_new ∷ goal_lines g
goal_lines (call r slots) = a_call r slots ∷ []

abbrev pub listing : Rules → List Statement
listing [] = []
listing (r ∷ rs) = a_rule r.params ∷ (goal_lines r.goal ++ listing rs)

abbrev pub canonical : Rules → List ℕ
canonical rules = ended (map (λ s. joined (words s)) (listing rules))

abbrev pub Writes : Rules → List ℕ → Type 0
Writes rules text = (text ≡ canonical rules) ⊎ (text ++ newline ∷ [] ≡ canonical rules)

pub record IsBook (rules : Rules) : Type 0 where
  pub few_rules_lem : length rules ≤ 64
  pub few_goals_lem : total rules ≤ 1024
  pub ranges : Each InRange (listing rules)
  pub shallow : Each (λ r. Shallow r.params r.goal) rules
  pub fits : WellFormed rules

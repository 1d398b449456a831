-- The text of a book, its lines and its length. Assumes nothing.
--
--   line_of     the line that says a statement
use Rattle.std.proofs.Common.{◌≡◌, ℕ, ◌+◌, ◌*◌, ◌≤◌, List, [], ◌∷◌, ◌++◌, map, length, sym, refl, ap, ◌∙◌, inl, inr, ⊎_elim, arith}
use Rattle.std.proofs.lemmas.List.{length-append}
use Rattle.fields.specs.Cutting.{newline, lines, fields, joined, ended, AllWithout, Filled}
use Rattle.fields.proofs.Joining.{joined_fields, ended_lines, lines_ended, lines_short}
use Rattle.line.proofs.Exactly.{exact}
use Rattle.line.proofs.Widths.{words_short}
use Rattle.line.proofs.Writing.{line_fields, line_newline, line_some}
use Rattle.line.specs.Statements.{Statement, words, InRange}
use Rattle.book.specs.Language.{Goal, tell, conj, disj, fresh, call, Rules, size, total, Each}
use Rattle.book.specs.Listing.{goal_lines, listing, canonical, Writes}
use Rattle.book.proofs.Passing.{Says}

abbrev pub line_of : Statement → List ℕ
line_of s = joined (words s)

-- lines that say statements say such as a line may say
pub says_ranges : (ls : List (List ℕ)) (sts : List Statement) → Says ls sts → Each InRange sts
says_ranges [] [] o = tt
says_ranges [] (st ∷ sts) o = elim o [ ]
says_ranges (l ∷ ls) [] o = elim o [ ]
says_ranges (l ∷ ls) (st ∷ sts) o = (((exact 0 (fields l)).only st o.0).0, says_ranges ls sts o.1)

-- and are the lines of these statements
pub says_lines : (ls : List (List ℕ)) (sts : List Statement) → Says ls sts → ls ≡ map line_of sts
says_lines [] [] o = refl
says_lines [] (st ∷ sts) o = elim o [ ]
says_lines (l ∷ ls) [] o = elim o [ ]
says_lines (l ∷ ls) (st ∷ sts) o =
    let e : l ≡ line_of st = sym (joined_fields l) ∙ ap joined ((exact 0 (fields l)).only st o.0).1 in
    ap (λ x. x ∷ ls) e ∙ ap (λ xs. line_of st ∷ xs) (says_lines ls sts o.1)

-- the lines of statements say them
pub lines_say : (sts : List Statement) → Each InRange sts → Says (map line_of sts) sts
lines_say [] r = tt
lines_say (st ∷ sts) r = ((exact 0 (fields (line_of st))).reads st r.0 (line_fields st r.0), lines_say sts r.1)

pub lines_plain : (sts : List Statement) → Each InRange sts → AllWithout newline (map line_of sts)
lines_plain [] r = tt
lines_plain (st ∷ sts) r = (line_newline st r.0, lines_plain sts r.1)

pub lines_filled : (sts : List Statement) → Filled (map line_of sts)
lines_filled [] = tt
lines_filled (st ∷ sts) = (line_some st, lines_filled sts)

-- a text with a book's lines is a text of the book
pub writes_from_lines : (rules : Rules) (text : List ℕ) → lines text ≡ map line_of (listing rules) → Writes rules text
writes_from_lines rules text q = ⊎_elim (λ (e : ended (lines text) ≡ text). inl (sym e ∙ ap ended q)) (λ (e : ended (lines text) ≡ text ++ newline ∷ []). inr (sym e ∙ ap ended q)) (ended_lines text)

-- and the other way round
pub lines_from_writes : (rules : Rules) (text : List ℕ) → Each InRange (listing rules) → Writes rules text → lines text ≡ map line_of (listing rules)
lines_from_writes rules text r w =
    ⊎_elim
    (λ (e : text ≡ canonical rules). ap lines e ∙ lines_ended (map line_of (listing rules)) (lines_plain (listing rules) r))
    (λ (e : text ++ newline ∷ [] ≡ canonical rules). lines_short text (map line_of (listing rules)) (lines_plain (listing rules) r) (lines_filled (listing rules)) e)
    w

length_ended : (sts : List Statement) → Each InRange sts → length (ended (map line_of sts)) ≤ 56 * length sts
length_ended [] r = omega arith
length_ended (st ∷ sts) r = omega (arith, length-append (line_of st) (newline ∷ ended (map line_of sts)), words_short st r.0, length_ended sts r.1)

length_goal_lines : (g : Goal) → length (goal_lines g) ≡ size g
length_goal_lines (tell code k slots) = refl
length_goal_lines (conj g h) = omega (arith, length-append (goal_lines g) (goal_lines h), length_goal_lines g, length_goal_lines h)
length_goal_lines (disj g h) = omega (arith, length-append (goal_lines g) (goal_lines h), length_goal_lines g, length_goal_lines h)
length_goal_lines (fresh g) = omega (arith, length_goal_lines g)
length_goal_lines (call r slots) = refl

pub length_listing : (rules : Rules) → length (listing rules) ≡ length rules + total rules
length_listing [] = refl
length_listing (r ∷ rs) = omega (arith, length-append (goal_lines r.goal) (listing rs), length_goal_lines r.goal, length_listing rs)

-- a book's text is never too long
pub text_short : (rules : Rules) (text : List ℕ) → length rules ≤ 64 → total rules ≤ 1024 → Each InRange (listing rules) → Writes rules text → length text ≤ 65536
text_short rules text few low r w =
    let k = length_ended (listing rules) r in
    let n = length_listing rules in
    ⊎_elim
    (λ (e : text ≡ canonical rules). let q : length text ≡ length (canonical rules) = ap length e in omega arith)
    (λ (e : text ++ newline ∷ [] ≡ canonical rules). let q : length (text ++ newline ∷ []) ≡ length (canonical rules) = ap length e in omega (arith, length-append text (newline ∷ [])))
    w

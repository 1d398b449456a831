-- The table of worked examples. Assumes nothing.
--
--   two_ways    one slot, 60 or 67; two_ways_bare lacks the last newline, and two_ways_cut the last line
--   both_ways   two equal slots, 60 or 67
--   again       a rule that calls itself first, or else its slot is 5
--   inside      a slot that would have itself inside
--   fifth       a slot 7 above another
--   idle        a rule that only calls itself
--   above       the constraint that x is y plus k
--   numbers     numbers as values
--   table       the rows; L and R are the choices of an answer or a derivation, left and right
use Rattle.std.specs.Prelude.{ℕ, List, [], ◌∷◌, pos}
use Prim.Native.String.{String}
use Rattle.bank.specs.Kinds.{Value, number, Condition}
use Rattle.machine.specs.Machine.{left as L, right as R}
use Rattle.worked.specs.Rows.{over_trees, over_semitones, exhausted, spent, Row, runs, weighs, refuses, reads_alike, contradicts, accepts}

abbrev pub two_ways : String
two_ways = "rule,1\nor\ntell,1,60,0\ntell,1,67,0\n"

abbrev pub two_ways_bare : String
two_ways_bare = "rule,1\nor\ntell,1,60,0\ntell,1,67,0"

abbrev pub two_ways_cut : String
two_ways_cut = "rule,1\nor\ntell,1,60,0\n"

abbrev pub both_ways : String
both_ways = "rule,2\nand\nor\ntell,1,60,0\ntell,1,67,0\ntell,0,0,0,1\n"

abbrev pub again : String
again = "rule,1\nor\ncall,0,0\ntell,1,5,0\n"

abbrev pub inside : String
inside = "rule,1\nnew\ntell,2,0,0,0,1\n"

abbrev pub fifth : String
fifth = "rule,2\ntell,3,7,1,0\n"

abbrev pub idle : String
idle = "rule,0\ncall,0\n"

abbrev pub above : ℕ → ℕ → ℕ → Condition
above x y k = record { code = 3; k = pos k; vars = x ∷ y ∷ [] }

abbrev pub numbers : List ℕ → List Value
numbers [] = []
numbers (k ∷ ks) = number (pos k) ∷ numbers ks

abbrev pub table : List Row
table =
    runs over_trees two_ways 3 ((2, L ∷ [], "60") ∷ (3, R ∷ [], "67") ∷ []) exhausted
    ∷ weighs over_trees two_ways (numbers (60 ∷ [])) (L ∷ []) 2
    ∷ weighs over_trees two_ways (numbers (67 ∷ [])) (R ∷ []) 3
    ∷ runs over_trees both_ways 6 ((4, L ∷ [], "60,60") ∷ (6, R ∷ [], "67,67") ∷ []) exhausted
    ∷ weighs over_trees both_ways (numbers (60 ∷ 60 ∷ [])) (L ∷ []) 6
    ∷ weighs over_trees both_ways (numbers (67 ∷ 67 ∷ [])) (R ∷ []) 12
    ∷ runs over_trees again 9 ((3, R ∷ [], "5") ∷ (6, L ∷ R ∷ [], "5") ∷ (9, L ∷ L ∷ R ∷ [], "5") ∷ []) spent
    ∷ weighs over_trees again (numbers (5 ∷ [])) (R ∷ []) 3
    ∷ weighs over_trees again (numbers (5 ∷ [])) (L ∷ R ∷ []) 8
    ∷ runs over_trees inside 2 [] exhausted
    ∷ runs over_semitones fifth 1 ((1, [], "_0,_0+7") ∷ []) exhausted
    ∷ runs over_trees idle 6 [] spent
    ∷ refuses two_ways_cut 5 4 1
    ∷ reads_alike two_ways two_ways_bare
    ∷ contradicts over_semitones (above 1 0 7 ∷ above 2 1 5 ∷ []) (above 2 0 11) 33
    ∷ accepts over_semitones (above 1 0 7 ∷ above 2 1 5 ∷ []) (above 2 0 12)
    ∷ []

-- A text cut into lines, a line cut into fields, and both put together again. Assumes nothing.
--
--   ahead     a byte in front of the first of some pieces
--   lines     the lines of a text: each ends by a newline, which the last may lack
--   fields    the fields of a line, parted by commas; an empty line has one, which is empty
--   before    what stands before the first newline
--   after     what stands behind it
--   joined    fields put together to a line, with a comma between two
--   ended     lines put together to a text, with a newline behind each
--   Whole     the lines of a text make it up again; the newline that its last line may lack is then there
--   Without   a byte does not stand in a piece, or AllWithout in any of some pieces
--   Filled    no piece is empty
use Rattle.std.specs.Prelude.{◌≡◌, ℕ, ◌<◌, cond, ◌⊎◌, List, [], ◌∷◌, ◌++◌, length, ◌==◌, ◌≢◌}

abbrev pub newline : ℕ
newline = 10

abbrev pub comma : ℕ
comma = 44

abbrev pub ahead : ℕ → List (List ℕ) → List (List ℕ)
ahead b [] = (b ∷ []) ∷ []
ahead b (p ∷ ps) = (b ∷ p) ∷ ps

abbrev pub lines : List ℕ → List (List ℕ)
lines [] = []
lines (b ∷ bs) = cond (b == newline) ([] ∷ lines bs) (ahead b (lines bs))

abbrev pub fields : List ℕ → List (List ℕ)
fields [] = [] ∷ []
fields (b ∷ bs) = cond (b == comma) ([] ∷ fields bs) (ahead b (fields bs))

abbrev pub before : List ℕ → List ℕ
before [] = []
before (b ∷ bs) = cond (b == newline) [] (b ∷ before bs)

abbrev pub after : List ℕ → List ℕ
after [] = []
after (b ∷ bs) = cond (b == newline) bs (after bs)

abbrev pub joined : List (List ℕ) → List ℕ
joined [] = []
joined (f ∷ []) = f
joined (f ∷ g ∷ fs) = f ++ comma ∷ joined (g ∷ fs)

abbrev pub ended : List (List ℕ) → List ℕ
ended [] = []
ended (l ∷ ls) = l ++ newline ∷ ended ls

abbrev pub Whole : List ℕ → Type 0
Whole text = (ended (lines text) ≡ text) ⊎ (ended (lines text) ≡ text ++ newline ∷ [])

abbrev pub Without : ℕ → List ℕ → Type 0
Without c [] = Unit {0}
Without c (b ∷ bs) = (b ≢ c) × Without c bs

abbrev pub AllWithout : ℕ → List (List ℕ) → Type 0
AllWithout c [] = Unit {0}
AllWithout c (p ∷ ps) = Without c p × AllWithout c ps

abbrev pub Filled : List (List ℕ) → Type 0
Filled [] = Unit {0}
Filled (p ∷ ps) = (0 < length p) × Filled ps

-- What a cursor over a text has before it, and what its calls give. Assumes nothing.
--
--   rest     the part of the text that it has not passed
--   here     the fields of its line that are still to come
--   later    the lines behind its own
--   Lined    one move to the next line
--   Given    one field given
use Rattle.std.specs.Prelude.{◌≡◌, ℕ, ◌+◌, cond, List, [], ◌∷◌, drop, Some, None, Option}
use Rattle.fields.specs.declared.Field.{Field}
use Rattle.fields.specs.declared.Fields.{Fields}
use Rattle.fields.specs.Cutting.{lines, fields, before, after, joined}

abbrev pub rest : Fields → List ℕ
rest f = drop f.pos f.text.now

abbrev pub here : Fields → List (List ℕ)
here f = cond f.inside (fields (before (rest f))) []

abbrev pub later : Fields → List (List ℕ)
later f = lines (cond f.inside (after (rest f)) (rest f))

-- the next line begins with its first field, or there is no line
abbrev pub Lined : Fields → Option ℕ → Fields → Type 0
Lined f None g = (later f ≡ []) × (here g ≡ []) × (later g ≡ []) × (g.line ≡ f.line)
Lined f (Some n) g = (l : List ℕ) × (later f ≡ l ∷ later g) × (here g ≡ fields l) × (n ≡ f.line + 1) × (g.line ≡ n) × (g.given ≡ 0) × (joined (here g) ≡ l)

-- the line's next field with its place, or the line has none
abbrev pub Given : Fields → Option Field → Fields → Type 0
Given f None g = (here f ≡ []) × (g ≡ f)
Given f (Some x) g = (here f ≡ x.bytes.now ∷ here g) × (later g ≡ later f) × (g.line ≡ f.line) × (g.given ≡ f.given + 1) × (x.line ≡ f.line) × (x.number ≡ f.given + 1)

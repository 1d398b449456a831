-- How a cursor moves: behind the fields of its line it stands before the next line, or at the end of its text. Assumes nothing.
use Rattle.std.proofs.Common.{◌≡◌, ℕ, ◌+◌, ◌-◌, ◌<◌, true, false, cond, eqb, ◌≢◌, [], ◌∷◌, length, get_or, take, drop, Some, None, sym, refl, ap, ◌∙◌, ⊎_elim, arith}
use Rattle.std.proofs.lemmas.List.{drop_all, length-drop}
use Rattle.std.proofs.lemmas.Bool.{cases_Bool, cond-true, cond-false, eqb-false}
use Rattle.fields.specs.declared.Fields.{Fields}
use Rattle.fields.specs.Cutting.{comma, lines, fields, before, after, joined}
use Rattle.fields.specs.Cursor.{rest, here, later, Lined}
use Rattle.fields.proofs.Cuts.{Scan, line_first, cut_end, cut_more}
use Rattle.fields.proofs.Joining.{fields_some, joined_fields}

pub outside : (f : Fields) → here f ≡ [] → f.inside ≡ false
outside f none =
    let some = fields_some (before (rest f)) in
    let shut : f.inside ≡ true → ⊥ =
    (λ e. omega (arith, ap length (sym (cond-true f.inside (fields (before (rest f))) [] e) ∙ none))) in
    ⊎_elim (λ e. absurd (shut e)) (λ e. e) (cases_Bool f.inside)

pub later_outside : (f : Fields) → here f ≡ [] → later f ≡ lines (rest f)
later_outside f none = ap lines (cond-false f.inside (after (rest f)) (rest f) (outside f none))

pub later_end : (f : Fields) → here f ≡ [] → f.pos ≡ length f.text.now → later f ≡ []
later_end f none e = later_outside f none ∙ ap lines (drop_all f.pos f.text.now (omega arith))

pub before_end : (f : Fields) → eqb f.pos (length f.text.now) ≡ false → f.pos < length f.text.now
before_end f e =
    let within = f.within in
    let ne : f.pos ≢ length f.text.now = eqb-false f.pos (length f.text.now) e in
    omega arith

pub later_first : (f : Fields) → here f ≡ [] → f.pos < length f.text.now → later f ≡ before (rest f) ∷ lines (after (rest f))
later_first f none h =
    let long = length-drop f.pos f.text.now in
    later_outside f none ∙ line_first (rest f) (omega arith)

-- a cursor that has passed all of its line, at the end or before the next line
pub line_end : (f g : Fields) → later g ≡ later f → g.line ≡ f.line → here g ≡ [] → g.pos ≡ length g.text.now → Lined f None g
line_end f g lines line none end =
    let all = later_end g none end in
    (sym lines ∙ all, none, all, line)

pub line_next : (f g h : Fields) → later g ≡ later f → g.line ≡ f.line → here g ≡ [] → g.pos < length g.text.now → rest h ≡ rest g → h.inside ≡ true → h.line ≡ g.line + 1 → h.given ≡ 0 → Lined f (Some h.line) h
line_next f g h behind line none more place inside count given =
    let mine : here h ≡ fields (before (rest g)) = (λ i. cond (inside i) (fields (before (place i))) []) in
    let left : lines (after (rest g)) ≡ later h = sym (λ i. lines (cond (inside i) (after (place i)) (place i))) in
    (before (rest g), sym behind ∙ later_first g none more ∙ ap (λ ls. before (rest g) ∷ ls) left, mine, count ∙ ap (λ n. n + 1) line, refl, given, ap joined mine ∙ joined_fields (before (rest g)))

-- the cursor g behind the field of n bytes that s stands before
module _ (s g : Fields) (n : ℕ) (inside : s.inside ≡ true) (scan : Scan n (take (length s.text.now - s.pos) (rest s))) (text : g.text.now ≡ s.text.now) where
  mine : here s ≡ fields (before (rest s))
  mine = cond-true s.inside (fields (before (rest s))) [] inside

  behind : later s ≡ lines (after (rest s))
  behind = ap lines (cond-true s.inside (after (rest s)) (rest s) inside)

  pub field_last : s.pos + n ≡ length s.text.now → (g.pos ≡ s.pos + n) × (g.inside ≡ false) → (here s ≡ take (s.pos + n - s.pos) (rest s) ∷ here g) × (later g ≡ later s)
  field_last e q =
      let m = cut_end s.text.now s.pos n s.within scan e in
      let none : here g ≡ [] = cond-false g.inside (fields (before (rest g))) [] q.1 in
      let left = ap lines (cond-false g.inside (after (rest g)) (rest g) q.1 ∙ (λ i. drop (q.0 i) (text i))) in
      (mine ∙ m.0 ∙ ap (λ fs. take (s.pos + n - s.pos) (rest s) ∷ fs) (sym none), left ∙ ap lines m.1 ∙ sym behind)

  pub field_more : (s.pos + n ≡ length s.text.now → ⊥) → (g.pos ≡ s.pos + n + 1) × (g.inside ≡ eqb (get_or s.text.now (s.pos + n) 0) comma) → (here s ≡ take (s.pos + n - s.pos) (rest s) ∷ here g) × (later g ≡ later s)
  field_more e q =
      let m = cut_more s.text.now s.pos n s.within scan e in
      let past : rest g ≡ drop (s.pos + n + 1) s.text.now = (λ i. drop (q.0 i) (text i)) in
      let first = mine ∙ m.0 ∙ (λ i. take (s.pos + n - s.pos) (rest s) ∷ cond (sym q.1 i) (fields (before (sym past i))) []) in
      (first, ap lines ((λ i. cond (q.1 i) (after (past i)) (past i)) ∙ m.1) ∙ sym behind)

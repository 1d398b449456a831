-- How many fields a line has. Assumes nothing.
use Rattle.std.proofs.Common.{◌≡◌, ℕ, suc, ◌+◌, ◌≤◌, true, None, List, [], ◌∷◌, length, sym, ap, ◌∙◌, ⊎_elim, arith}
use Rattle.std.proofs.lemmas.List.{length-drop}
use Rattle.std.proofs.lemmas.Bool.{cases_Bool}
use Rattle.std.specs.Iterator.{Yields}
use Rattle.std.specs.Iterator.Runs.{Run, Trigger, YieldsRun}
use Rattle.std.specs.Bool.{◌==◌}
use Rattle.fields.specs.declared.Field.{Field}
use Rattle.fields.specs.declared.Fields.{Fields}
use Rattle.fields.specs.Cutting.{newline, comma, ahead, fields, before}
use Rattle.fields.specs.Cursor.{rest, here, Given}

ahead_length : (b : ℕ) (ps : List (List ℕ)) → length (ahead b ps) ≤ length ps + 1
ahead_length b [] = omega arith
ahead_length b (p ∷ ps) = omega arith

fields_length : (bs : List ℕ) → length (fields bs) ≤ length bs + 1
fields_length [] = omega arith
fields_length (b ∷ bs) =
    let few = fields_length bs in
    let more = ahead_length b (fields bs) in
    ⊎_elim (λ e. rw e (omega arith)) (λ e. rw e (omega arith)) (cases_Bool (b == comma))

before_length : (bs : List ℕ) → length (before bs) ≤ length bs
before_length [] = omega arith
before_length (b ∷ bs) =
    let few = before_length bs in
    ⊎_elim (λ e. rw e (omega arith)) (λ e. rw e (omega arith)) (cases_Bool (b == newline))

pub here_length : (f : Fields) → length (here f) ≤ length f.text.now + 1
here_length f =
    let few = fields_length (before (rest f)) in
    let line = before_length (rest f) in
    let left = length-drop f.pos f.text.now in
    ⊎_elim (λ e. rw e (omega arith)) (λ e. rw e (omega arith)) (cases_Bool f.inside)

-- as many fields come as the line has
pub come : (f t u : Fields) (xs : List Field) → Yields Given f xs t → Given t None u → length xs ≡ length (here f)
come f t u [] e end = sym (ap (λ q. length (here q)) e ∙ ap length end.0)
come f t u (x ∷ xs) e end = ap suc (come e.0 t u xs e.2 end) ∙ sym (ap length e.1.0)

pub runs_come : (p : Run Given) → Trigger p.len → p.whole ≡ true → p.len ≡ length (here p.from)
unfolding YieldsRun
runs_come p seen whole =
    let gave = p.gave.0 in
    let end = gave.2 whole in
    p.long ∙ come p.from gave.0 end.0 p.items gave.1 end.1

-- What was cut and is put together again is what it was, and the other way round. Assumes nothing.
use Rattle.std.proofs.Common.{◌≡◌, ℕ, ◌<◌, eqb, List, [], ◌∷◌, ◌++◌, length, sym, refl, ap, ◌∙◌, inl, inr, ⊎_elim, arith}
use Rattle.std.proofs.lemmas.List.{append_assoc, append_cancel_right, length-append}
use Rattle.std.proofs.lemmas.Bool.{cases_Bool, eqb-true, ne_eqb}
use Rattle.fields.specs.Cutting.{newline, comma, ahead, lines, fields, joined, ended, Whole, Without, AllWithout, Filled}

pub ahead_some : (b : ℕ) (ps : List (List ℕ)) → 0 < length (ahead b ps)
ahead_some b [] = omega arith
ahead_some b (p ∷ ps) = omega arith

pub without_append : (c : ℕ) (xs ys : List ℕ) → Without c xs → Without c ys → Without c (xs ++ ys)
without_append c [] ys v w = w
without_append c (x ∷ xs) ys v w = (v.0, without_append c xs ys v.1 w)

-- a line has a field
pub fields_some : (l : List ℕ) → 0 < length (fields l)
fields_some [] = omega arith
fields_some (b ∷ bs) =
    ⊎_elim (λ e. rw e (omega arith)) (λ e. rw e (ahead_some b (fields bs))) (cases_Bool (eqb b comma))

pub joined_ahead : (b : ℕ) (ps : List (List ℕ)) → joined (ahead b ps) ≡ b ∷ joined ps
joined_ahead b [] = refl
joined_ahead b (p ∷ []) = refl
joined_ahead b (p ∷ q ∷ ps) = refl

-- an empty field in front is a comma in front
pub joined_empty : (ps : List (List ℕ)) → 0 < length ps → joined ([] ∷ ps) ≡ comma ∷ joined ps
joined_empty [] h = absurd (omega arith)
joined_empty (p ∷ ps) h = refl

pub joined_fields : (l : List ℕ) → joined (fields l) ≡ l
joined_fields [] = refl
joined_fields (b ∷ bs) =
    ⊎_elim
    (λ e. rw e (joined_empty (fields bs) (fields_some bs) ∙ (λ i. sym (eqb-true b comma e) i ∷ joined_fields bs i)))
    (λ e. rw e (joined_ahead b (fields bs) ∙ ap (λ r. b ∷ r) (joined_fields bs)))
    (cases_Bool (eqb b comma))

pub fields_plain : (f : List ℕ) → Without comma f → fields f ≡ f ∷ []
fields_plain [] w = refl
fields_plain (b ∷ bs) w =
    let e = ne_eqb b comma w.0 in
    rw e (ap (ahead b) (fields_plain bs w.1))

pub fields_first : (f r : List ℕ) → Without comma f → fields (f ++ comma ∷ r) ≡ f ∷ fields r
fields_first [] r w = refl
fields_first (b ∷ bs) r w =
    let e = ne_eqb b comma w.0 in
    rw e (ap (ahead b) (fields_first bs r w.1))

pub fields_joined : (f : List ℕ) (fs : List (List ℕ)) → AllWithout comma (f ∷ fs) → fields (joined (f ∷ fs)) ≡ f ∷ fs
fields_joined f [] w = fields_plain f w.0
fields_joined f (g ∷ fs) w =
    fields_first f (joined (g ∷ fs)) w.0 ∙ ap (λ r. f ∷ r) (fields_joined g fs w.1)

pub without_joined : (c : ℕ) (fs : List (List ℕ)) → (c ≡ comma → ⊥) → AllWithout c fs → Without c (joined fs)
without_joined c [] other w = tt
without_joined c (f ∷ []) other w = w.0
without_joined c (f ∷ g ∷ fs) other w =
    without_append c f (comma ∷ joined (g ∷ fs)) w.0 (λ e. other (sym e), without_joined c (g ∷ fs) other w.1)

-- a text with a byte has a line
pub lines_some : (b : ℕ) (bs : List ℕ) → 0 < length (lines (b ∷ bs))
lines_some b bs =
    ⊎_elim (λ e. rw e (omega arith)) (λ e. rw e (ahead_some b (lines bs))) (cases_Bool (eqb b newline))

pub ended_ahead : (b : ℕ) (ps : List (List ℕ)) → 0 < length ps → ended (ahead b ps) ≡ b ∷ ended ps
ended_ahead b [] h = absurd (omega arith)
ended_ahead b (p ∷ ps) h = refl

pub ended_lines : (text : List ℕ) → Whole text
ended_lines [] = inl refl
ended_lines (b ∷ []) =
    ⊎_elim
    (λ e. inl (rw e (ap (λ n. n ∷ []) (sym (eqb-true b newline e)))))
    (λ e. inr (rw e refl))
    (cases_Bool (eqb b newline))
ended_lines (b ∷ x ∷ xs) =
    let first : ended (lines (b ∷ x ∷ xs)) ≡ b ∷ ended (lines (x ∷ xs)) =
    ⊎_elim
    (λ e. rw e (ap (λ n. n ∷ ended (lines (x ∷ xs))) (sym (eqb-true b newline e))))
    (λ e. rw e (ended_ahead b (lines (x ∷ xs)) (lines_some x xs)))
    (cases_Bool (eqb b newline)) in
    ⊎_elim (λ e. inl (first ∙ ap (λ r. b ∷ r) e)) (λ e. inr (first ∙ ap (λ r. b ∷ r) e)) (ended_lines (x ∷ xs))

pub lines_plain : (l : List ℕ) → Without newline l → 0 < length l → lines l ≡ l ∷ []
lines_plain [] w h = absurd (omega arith)
lines_plain (b ∷ []) w h = let e = ne_eqb b newline w.0 in rw e refl
lines_plain (b ∷ x ∷ xs) w h =
    let e = ne_eqb b newline w.0 in
    rw e (ap (ahead b) (lines_plain (x ∷ xs) w.1 (omega arith)))

pub lines_first : (l r : List ℕ) → Without newline l → lines (l ++ newline ∷ r) ≡ l ∷ lines r
lines_first [] r w = refl
lines_first (b ∷ bs) r w =
    let e = ne_eqb b newline w.0 in
    rw e (ap (ahead b) (lines_first bs r w.1))

pub lines_ended : (ls : List (List ℕ)) → AllWithout newline ls → lines (ended ls) ≡ ls
lines_ended [] w = refl
lines_ended (l ∷ ls) w = lines_first l (ended ls) w.0 ∙ ap (λ r. l ∷ r) (lines_ended ls w.1)

-- without the last newline the lines are the same
pub ended_short : (l : List ℕ) (ls : List (List ℕ)) → AllWithout newline (l ∷ ls) → Filled (l ∷ ls) → (t : List ℕ) × (t ++ newline ∷ [] ≡ ended (l ∷ ls)) × (lines t ≡ l ∷ ls)
ended_short l [] w s = (l, refl, lines_plain l w.0 s.0)
ended_short l (m ∷ ls) w s =
    let t = ended_short m ls w.1 s.1 in
    let whole = append_assoc l (newline ∷ t.0) (newline ∷ []) ∙ ap (λ r. l ++ newline ∷ r) t.1 in
    (l ++ newline ∷ t.0, whole, lines_first l t.0 w.0 ∙ ap (λ r. l ∷ r) t.2)

pub lines_short : (text : List ℕ) (ls : List (List ℕ)) → AllWithout newline ls → Filled ls → text ++ newline ∷ [] ≡ ended ls → lines text ≡ ls
lines_short text [] w s e = absurd (omega (arith, length-append text (newline ∷ []), ap length e))
lines_short text (l ∷ ls) w s e =
    let t = ended_short l ls w s in
    ap lines (append_cancel_right text t.0 (newline ∷ []) (e ∙ sym t.1)) ∙ t.2

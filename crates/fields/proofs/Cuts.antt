-- What one field takes from a text: the cut at a comma, at a newline and at the end. Assumes nothing.
use Rattle.std.proofs.Common.{◌≡◌, ℕ, zero, suc, ◌+◌, ◌-◌, ◌<◌, ◌≤◌, true, false, cond, eqb, List, [], ◌∷◌, length, get_or, take, drop, sym, refl, ap, ◌∙◌, subst, ⊎_elim, arith}
use Rattle.std.proofs.lemmas.List.{take_rest, get_or-drop, length-drop, drop-drop}
use Rattle.std.proofs.lemmas.Bool.{cases_Bool, cases_eq, eq-eqb, ne_eqb}
use Rattle.fields.specs.Cutting.{newline, comma, ahead, lines, fields, before, after}

-- a text with a byte has a first line
pub line_first : (bs : List ℕ) → 0 < length bs → lines bs ≡ before bs ∷ lines (after bs)
line_first [] h = absurd (omega arith)
line_first (b ∷ []) h = ⊎_elim (λ e. rw e refl) (λ e. rw e refl) (cases_Bool (eqb b newline))
line_first (b ∷ x ∷ xs) h =
    ⊎_elim (λ e. rw e refl) (λ e. rw e (ap (ahead b) (line_first (x ∷ xs) (omega arith)))) (cases_Bool (eqb b newline))

-- the first n bytes part nothing
abbrev pub Plain : ℕ → List ℕ → Type 0
Plain n bs = (k : ℕ) → k < n → (get_or bs k 0 ≡ comma → ⊥) × (get_or bs k 0 ≡ newline → ⊥)

pub plain_rest : (n b : ℕ) (bs : List ℕ) → Plain (suc n) (b ∷ bs) → Plain n bs
plain_rest n b bs p k h = p (suc k) (omega arith)

pub before_comma : (n : ℕ) (bs : List ℕ) → Plain n bs → n < length bs → get_or bs n 0 ≡ comma → fields (before bs) ≡ take n bs ∷ fields (before (drop (suc n) bs))
before_comma n [] p h e = absurd (omega arith)
before_comma zero (b ∷ bs) p h e =
    let a : eqb b newline ≡ false = ne_eqb b newline (λ t. omega arith) in
    let c : eqb b comma ≡ true = eq-eqb b comma e in
    rw (a, c) refl
before_comma (suc n) (b ∷ bs) p h e =
    let a : eqb b newline ≡ false = ne_eqb b newline (p 0 (omega arith)).1 in
    let c : eqb b comma ≡ false = ne_eqb b comma (p 0 (omega arith)).0 in
    rw (a, c) (ap (ahead b) (before_comma n bs (plain_rest n b bs p) (omega arith) e))

pub after_comma : (n : ℕ) (bs : List ℕ) → Plain n bs → n < length bs → get_or bs n 0 ≡ comma → after bs ≡ after (drop (suc n) bs)
after_comma n [] p h e = absurd (omega arith)
after_comma zero (b ∷ bs) p h e =
    let a : eqb b newline ≡ false = ne_eqb b newline (λ t. omega arith) in
    rw a refl
after_comma (suc n) (b ∷ bs) p h e =
    let a : eqb b newline ≡ false = ne_eqb b newline (p 0 (omega arith)).1 in
    rw a (after_comma n bs (plain_rest n b bs p) (omega arith) e)

pub before_end : (n : ℕ) (bs : List ℕ) → Plain n bs → (n < length bs → get_or bs n 0 ≡ newline) → n ≤ length bs → fields (before bs) ≡ take n bs ∷ []
before_end zero [] p e l = refl
before_end (suc n) [] p e l = absurd (omega arith)
before_end zero (b ∷ bs) p e l =
    let a : eqb b newline ≡ true = eq-eqb b newline (e (omega arith)) in
    rw a refl
before_end (suc n) (b ∷ bs) p e l =
    let a : eqb b newline ≡ false = ne_eqb b newline (p 0 (omega arith)).1 in
    let c : eqb b comma ≡ false = ne_eqb b comma (p 0 (omega arith)).0 in
    rw (a, c) (ap (ahead b) (before_end n bs (plain_rest n b bs p) (λ h. e (omega arith)) (omega arith)))

pub after_line : (n : ℕ) (bs : List ℕ) → Plain n bs → n < length bs → get_or bs n 0 ≡ newline → after bs ≡ drop (suc n) bs
after_line n [] p h e = absurd (omega arith)
after_line zero (b ∷ bs) p h e =
    let a : eqb b newline ≡ true = eq-eqb b newline e in
    rw a refl
after_line (suc n) (b ∷ bs) p h e =
    let a : eqb b newline ≡ false = ne_eqb b newline (p 0 (omega arith)).1 in
    rw a (after_line n bs (plain_rest n b bs p) (omega arith) e)

pub after_all : (n : ℕ) (bs : List ℕ) → Plain n bs → n ≡ length bs → after bs ≡ drop n bs
after_all zero [] p e = refl
after_all (suc n) [] p e = absurd (omega arith)
after_all zero (b ∷ bs) p e = absurd (omega arith)
after_all (suc n) (b ∷ bs) p e =
    let a : eqb b newline ≡ false = ne_eqb b newline (p 0 (omega arith)).1 in
    rw a (after_all n bs (plain_rest n b bs p) (omega arith))

-- what `field_len` answers: n bytes stand before the first comma or newline
pub record Scan (n : ℕ) (bs : List ℕ) : Type 0 where
  pub within : n ≤ length bs
  pub plain : Plain n bs
  pub stops : n < length bs → (get_or bs n 0 ≡ comma → ⊥) → get_or bs n 0 ≡ newline

-- a field of n bytes at pos, as the code takes it from the text
module _ (text : List ℕ) (pos n : ℕ) (in_text : pos ≤ length text) (scan : Scan n (take (length text - pos) (drop pos text))) where
  scanned : Scan n (drop pos text)
  scanned = subst (Scan n) (take_rest text pos) scan

  cut : take n (drop pos text) ≡ take (pos + n - pos) (drop pos text)
  cut = let e : n ≡ pos + n - pos = omega arith in ap (λ k. take k (drop pos text)) e

  past : drop (suc n) (drop pos text) ≡ drop (pos + n + 1) text
  past = let e : pos + suc n ≡ pos + n + 1 = omega arith in drop-drop (suc n) pos text ∙ ap (λ k. drop k text) e

  within : (pos + n ≡ length text → ⊥) → n < length (drop pos text)
  within more = let a = scanned.within in omega (arith, length-drop pos text)

  -- the field ends with the text
  pub cut_end : pos + n ≡ length text → (fields (before (drop pos text)) ≡ take (pos + n - pos) (drop pos text) ∷ []) × (drop (pos + n) text ≡ after (drop pos text))
  cut_end all =
      let long = length-drop pos text in
      let first = before_end n (drop pos text) scanned.plain (λ h. absurd (omega arith)) scanned.within in
      let left = after_all n (drop pos text) scanned.plain (omega arith) in
      (first ∙ ap (λ f. f ∷ []) cut, sym (drop-drop n pos text) ∙ sym left)

  -- it ends at a comma
  cut_comma : (pos + n ≡ length text → ⊥) → get_or text (pos + n) 0 ≡ comma → (fields (before (drop pos text)) ≡ take (pos + n - pos) (drop pos text) ∷ fields (before (drop (pos + n + 1) text))) × (after (drop (pos + n + 1) text) ≡ after (drop pos text))
  cut_comma more e =
      let there = get_or-drop pos text n 0 ∙ e in
      let first = before_comma n (drop pos text) scanned.plain (within more) there in
      let left = after_comma n (drop pos text) scanned.plain (within more) there in
      (first ∙ (λ i. cut i ∷ fields (before (past i))), ap after (sym past) ∙ sym left)

  -- it ends at a newline
  cut_line : (pos + n ≡ length text → ⊥) → (get_or text (pos + n) 0 ≡ comma → ⊥) → (fields (before (drop pos text)) ≡ take (pos + n - pos) (drop pos text) ∷ []) × (drop (pos + n + 1) text ≡ after (drop pos text))
  cut_line more other =
      let there = scanned.stops (within more) (λ e. other (sym (get_or-drop pos text n 0) ∙ e)) in
      let first = before_end n (drop pos text) scanned.plain (λ _. there) scanned.within in
      let left = after_line n (drop pos text) scanned.plain (within more) there in
      (first ∙ ap (λ f. f ∷ []) cut, sym past ∙ sym left)

  -- a byte stands behind the field, and another field follows if that byte is a comma
  pub cut_more : (pos + n ≡ length text → ⊥) → (fields (before (drop pos text)) ≡ take (pos + n - pos) (drop pos text) ∷ cond (eqb (get_or text (pos + n) 0) comma) (fields (before (drop (pos + n + 1) text))) []) × (cond (eqb (get_or text (pos + n) 0) comma) (after (drop (pos + n + 1) text)) (drop (pos + n + 1) text) ≡ after (drop pos text))
  cut_more more =
      ⊎_elim
      (λ e. let t = eq-eqb (get_or text (pos + n) 0) comma e in rw t (cut_comma more e))
      (λ other. let t = ne_eqb (get_or text (pos + n) 0) comma other in rw t (cut_line more other))
      (cases_eq (get_or text (pos + n) 0) comma)

-- A text is read exactly if it is that of a book, and then as this book. Assumes nothing.
use Rattle.std.proofs.Common.{◌≡◌, ℕ, Bool, true, false, cond, ltb, List, map, length, sym, refl, ap, ◌∙◌, subst, arith}
use Rattle.std.proofs.lemmas.Bool.{le-ltb, cond-false}
use Rattle.fields.specs.Cutting.{lines}
use Rattle.line.specs.Statements.{Statement, InRange}
use Rattle.book.specs.declared.refusal.Cause.TheVariants.{TextTooLong}
use Rattle.book.specs.Language.{Rules, Each}
use Rattle.book.specs.Listing.{listing, Writes, IsBook}
use Rattle.book.specs.Reading.{Entry, start, Checked, passed, stopped, check, heads, Misfit, fitting, misfit_at, misfit, forest, Reading, book, refused, settled, reading, ReadsBooks}
use Rattle.book.proofs.Polish.{grown, Whole, grown_whole, grown_listing, awaits_listing}
use Rattle.book.proofs.Passing.{saids, Says, Passes, passing, passes}
use Rattle.book.proofs.Misfits.{forest_grown, headed, heads_headed, headed_listing, params_of, Called, all_called, called_all, rules_fit, rules_shallow, rules_scoped, rules_called}
use Rattle.book.proofs.Texts.{line_of, says_ranges, says_lines, lines_say, writes_from_lines, lines_from_writes, text_short}

-- what is answered where the calls were looked at
abbrev judged : Rules → Misfit → Reading
judged rules fitting = book rules
judged rules (misfit_at cause line) = refused cause line 2

judged_is : (rules : Rules) (m : Misfit) → elim m as (λ _. Reading) [ fitting ↦ book rules | misfit_at cause line ↦ refused cause line 2 ] ≡ judged rules m
judged_is rules fitting = refl
judged_is rules (misfit_at cause line) = refl

judged_book : (rules : Rules) (m : Misfit) (found : Rules) → judged rules m ≡ book found → (m ≡ fitting) × (rules ≡ found)
judged_book rules fitting found e = (refl, cc)
judged_book rules (misfit_at cause line) found e = absurd (let z : ◌≡◌ {A = ℕ} 0 1 = cc in omega arith)

-- entries that make these rules and in which no call misfits
pub record Settles (es : List Entry) (rules : Rules) : Type 0 where
  pub fit : misfit (heads es) 1 es ≡ fitting
  pub made : (forest es).rules ≡ rules

settled_book : (c : Checked) (rules : Rules) → settled c ≡ book rules → (es : List Entry) × (c ≡ passed es) × Settles es rules
settled_book (stopped cause line field) rules e = absurd (let z : ◌≡◌ {A = ℕ} 0 1 = cc in omega arith)
settled_book (passed es) rules e =
    let h = judged_book (forest es).rules (misfit (heads es) 1 es) rules (sym (judged_is (forest es).rules (misfit (heads es) 1 es)) ∙ e) in
    (es, refl, record { fit = h.0; made = h.1 })

book_settled : (c : Checked) (es : List Entry) (rules : Rules) → c ≡ passed es → Settles es rules → settled c ≡ book rules
book_settled c es rules e s = ap settled e ∙ judged_is (forest es).rules (misfit (heads es) 1 es) ∙ ap (judged (forest es).rules) s.fit ∙ ap book s.made

-- entries that say a book's lines are those that settle to it
pub heads_listing : (es : List Entry) (rules : Rules) → saids es ≡ listing rules → heads es ≡ params_of rules
heads_listing es rules e = heads_headed es ∙ ap headed e ∙ headed_listing rules

pub settles : (es : List Entry) (rules : Rules) → IsBook rules → saids es ≡ listing rules → Settles es rules
settles es rules b e = record {
  fit = called_all (heads es) 1 es (subst (λ ps. Each (Called ps) (saids es)) (sym (heads_listing es rules e)) (subst (Each (Called (params_of rules))) (sym e) (rules_called rules rules b.fits)));
  made = ap (λ f. f.rules) (forest_grown es ∙ ap grown e ∙ grown_listing rules);
}

not_long : (b : Bool) (q : Reading) (rules : Rules) → cond b (refused TextTooLong 0 0) q ≡ book rules → q ≡ book rules
not_long true q rules e = absurd (let z : ◌≡◌ {A = ℕ} 0 1 = cc in omega arith)
not_long false q rules e = e

pub reads_as : (text : List ℕ) (rules : Rules) → IsBook rules → Writes rules text → reading text ≡ book rules
reads_as text rules b w =
    let o : Says (lines text) (listing rules) = subst (λ ls. Says ls (listing rules)) (sym (lines_from_writes rules text b.ranges w)) (lines_say (listing rules) b.ranges) in
    let h = passes (lines text) (listing rules) 1 start o (awaits_listing rules 0 0 (rules_scoped rules rules b.fits b.shallow) (omega arith) (omega arith)) in
    cond-false (ltb 65536 (length text)) (refused TextTooLong 0 0) (settled (check 1 start (lines text))) (le-ltb 65536 (length text) (text_short rules text b.few_rules_lem b.few_goals_lem b.ranges w))
    ∙ book_settled (check 1 start (lines text)) h.0 rules h.1 (settles h.0 rules b h.2)

-- what passed lines that settle to a book say is the book's lines
whole_book : (text : List ℕ) (rules : Rules) (es : List Entry) (sts : List Statement) → Passes start (lines text) es sts → Settles es rules → Whole rules sts
whole_book text rules es sts p s =
    let e : (grown sts).rules ≡ rules = ap (λ f. f.rules) (ap grown (sym p.adds) ∙ sym (forest_grown es)) ∙ s.made in
    subst (λ rs. Whole rs sts) e (grown_whole sts p.goes)

pub book_only : (text : List ℕ) (rules : Rules) (es : List Entry) (sts : List Statement) → Passes start (lines text) es sts → Settles es rules → IsBook rules × Writes rules text
book_only text rules es sts p s =
    let w = whole_book text rules es sts p s in
    let e : saids es ≡ listing rules = p.adds ∙ sym w.writes in
    let called : Each (Called (params_of rules)) (listing rules) = subst (Each (Called (params_of rules))) e (subst (λ ps. Each (Called ps) (saids es)) (heads_listing es rules e) (all_called (heads es) 1 es s.fit)) in (
      record {
        few_rules_lem = w.few_rules_lem;
        few_goals_lem = w.few_goals_lem;
        ranges = subst (Each InRange) (sym w.writes) (says_ranges (lines text) sts p.says);
        shallow = rules_shallow rules w.ruled;
        fits = rules_fit rules rules w.ruled called;
      },
      writes_from_lines rules text (says_lines (lines text) sts p.says ∙ ap (map line_of) (sym w.writes)),
    )

pub reads_only : (text : List ℕ) (rules : Rules) → reading text ≡ book rules → IsBook rules × Writes rules text
reads_only text rules e =
    let h = settled_book (check 1 start (lines text)) rules (not_long (ltb 65536 (length text)) (settled (check 1 start (lines text))) rules e) in
    let p = passing (lines text) 1 start h.0 h.1 in
    book_only text rules h.0 p.0 p.1 h.2

pub reads_books : (text : List ℕ) (r : Reading) → r ≡ reading text → ReadsBooks text r
reads_books text r is = record { reads = λ rules b w. is ∙ reads_as text rules b w; only = λ rules e. reads_only text rules (sym is ∙ e) }

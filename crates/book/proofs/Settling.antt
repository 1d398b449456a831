-- What a text is read as, by its length and by what its lines gave. Assumes nothing.
use Rattle.std.proofs.Common.{◌≡◌, ℕ, ◌<◌, ◌≤◌, ltb, List, length, sym, ap, ◌∙◌}
use Rattle.std.proofs.lemmas.Bool.{cond-true, cond-false, lt-ltb, le-ltb}
use Rattle.fields.specs.Cutting.{lines}
use Rattle.book.specs.declared.refusal.Cause.{Cause}
use Rattle.book.specs.declared.refusal.Cause.TheVariants.{TextTooLong}
use Rattle.book.specs.Reading.{Entry, Misfit, fitting, misfit_at, passed, stopped, start, check, heads, misfit, forest, Reading, book, refused, settled, reading}

pub reading_long : (text : List ℕ) → 65536 < length text → refused TextTooLong 0 0 ≡ reading text
reading_long text long = sym (cond-true (ltb 65536 (length text)) _ _ (lt-ltb 65536 (length text) long))

module _ (text : List ℕ) (short : length text ≤ 65536) where
  reading_settled : settled (check 1 start (lines text)) ≡ reading text
  reading_settled = sym (cond-false (ltb 65536 (length text)) _ _ (le-ltb 65536 (length text) short))

  pub reading_stopped : (cause : Cause) (line field : ℕ) → stopped cause line field ≡ check 1 start (lines text) → refused cause line field ≡ reading text
  reading_stopped cause line field e = ap settled e ∙ reading_settled

  by_misfit : List Entry → Misfit → Reading
  by_misfit es m = elim m [ fitting ↦ book (forest es).rules | misfit_at cause line ↦ refused cause line 2 ]

  pub reading_misfit : (es : List Entry) (cause : Cause) (line : ℕ) → passed es ≡ check 1 start (lines text) → misfit_at cause line ≡ misfit (heads es) 1 es → refused cause line 2 ≡ reading text
  unfolding by_misfit
  reading_misfit es cause line e m = ap (by_misfit es) m ∙ ap settled e ∙ reading_settled

  pub reading_book : (es : List Entry) → passed es ≡ check 1 start (lines text) → fitting ≡ misfit (heads es) 1 es → book (forest es).rules ≡ reading text
  unfolding by_misfit
  reading_book es e m = ap (by_misfit es) m ∙ ap settled e ∙ reading_settled

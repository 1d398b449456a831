-- What the loop over the lines of a text keeps. Assumes nothing.
use Rattle.std.proofs.Common.{◌≡◌, ℕ, ◌+◌, true, false, List, length, Some, Ok, Err, Result, sym, refl, ap, ◌∙◌, arith}
use Rattle.std.proofs.lemmas.List.{length_push}
use Rattle.std.proofs.lemmas.Bool.{both_ways}
use Rattle.std.specs.Result.{is_ok}
use Rattle.fields.specs.declared.Fields.{Fields}
use Rattle.fields.specs.Cursor.{here, later, Lined}
use Rattle.fields.specs.Cutting.{lines, fields}
use Rattle.line.specs.Reading.{Outcome, said, wrong, outcome}
use Rattle.row.specs.Shorts.{items as in_row}
use Rattle.book.specs.declared.place.Gathering.{Gathering}
use Rattle.book.specs.declared.refusal.Barred.{Barred}
use Rattle.book.specs.Drafts.{taken, placed_by}
use Rattle.book.specs.Reading.{State, placed, start, check}
use Rattle.book.specs.States.{state}
use Rattle.book.proofs.Awaited.{placing}
use Rattle.book.proofs.Built.{entries_long}
use Rattle.book.proofs.Passing.{onward, behind, check_cons}

-- the lines behind give what all of them give
pub record Gathers (text : List ℕ) (d : Gathering) (f : Fields) : Type 0 where
  pub going : check (f.line + 1) (state d) (later f) ≡ check 1 start (lines text)
  pub counted : length (in_row d.draft.listed) ≡ f.line

behind_taken : (line : ℕ) (s : State) (ls : List (List ℕ)) (o : Outcome) → behind line s ls o ≡ onward line ls (taken s o)
behind_taken line s ls (wrong fault) = refl
behind_taken line s ls (said st) = refl

taken_more : (s : State) (o : Outcome) (t : State) → taken s o ≡ placed t → length t.entries ≡ length s.entries + 1
taken_more s (wrong fault) t e = absurd (let z : ◌≡◌ {A = ℕ} 0 1 = cc in omega arith)
taken_more s (said st) t e = let p = placing s st t e in ap length p.entries ∙ length_push s.entries (record { says = st; scope = p.scope })

module _ (text : List ℕ) (d : Gathering) (f g : Fields) (n : ℕ) (was : Gathers text d f) (lined : Lined f (Some n) g) where
  -- the next line decides
  next : onward (f.line + 1) (later g) (taken (state d) (outcome g.given (here g))) ≡ check 1 start (lines text)
  next =
      let s = state d in
      let l = lined.0 in
      (λ i. onward (f.line + 1) (later g) (taken s (outcome (lined.5 i) (lined.2 i)))) ∙ sym (behind_taken (f.line + 1) s (later g) (outcome 0 (fields l))) ∙ sym (check_cons (f.line + 1) s l (later g)) ∙ ap (check (f.line + 1) s) (sym lined.1) ∙ was.going

  gathers_more : (d' : Gathering) (g' : Fields) → taken (state d) (outcome g.given (here g)) ≡ placed (state d') → later g' ≡ later g → g'.line ≡ g.line → Gathers text d' g'
  gathers_more d' g' e same number =
      let more = taken_more (state d) (outcome g.given (here g)) (state d') e in
      let line : g'.line ≡ f.line + 1 = number ∙ lined.4 ∙ lined.3 in
      record {
        going = (λ i. check (line i + 1) (state d') (same i)) ∙ sym (ap (onward (f.line + 1) (later g)) e) ∙ next;
        counted = omega (arith, was.counted, entries_long d.draft, entries_long d'.draft);
      }

  -- the same, by what the code answered to that line
  pub gathers_ok : (r : Result (Unit {0}) Barred) (d' : Gathering) (g' : Fields) → is_ok r ≡ true → taken (state d) (outcome g.given (here g)) ≡ placed_by r (state d') → later g' ≡ later g → g'.line ≡ g.line → Gathers text d' g'
  gathers_ok (Ok u) d' g' ok e same number = gathers_more d' g' e same number
  gathers_ok (Err b) d' g' ok e same number = absurd (both_ways false refl ok)

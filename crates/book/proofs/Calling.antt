-- One call against the rule that it names, and the calls one after another. Assumes nothing.
use Rattle.std.proofs.Common.{◌≡◌, ℕ, ◌+◌, ◌<◌, length, get_or, drop, Some, None, sym, ap, ◌∙◌}
use Rattle.row.specs.Shorts.{items as in_row}
use Rattle.line.specs.Says.{says}
use Rattle.book.specs.declared.drafts.Draft.{Draft}
use Rattle.book.specs.declared.drafts.Listed.{Listed}
use Rattle.book.specs.declared.refusal.Cause.{Cause}
use Rattle.book.specs.Drafts.{entries}
use Rattle.book.specs.Reading.{misfit_at, heads, call_fault_lem, misfit}
use Rattle.book.proofs.Misfits.{found, found_is}
use Rattle.book.proofs.Built.{line_here}

module _ (d : Draft) (k : ℕ) (x : Listed) (inside : k < length (in_row d.listed)) (there : x ≡ get_or (in_row d.listed) k x) where
  step : misfit (heads (entries d)) (k + 1) (drop k (entries d)) ≡ found (heads (entries d)) (k + 1) (drop (k + 1) (entries d)) (call_fault_lem (heads (entries d)) (says x.line))
  step = ap (misfit (heads (entries d)) (k + 1)) (line_here d k x inside there) ∙ found_is (heads (entries d)) (k + 1) (drop (k + 1) (entries d)) (call_fault_lem (heads (entries d)) (says x.line))

  pub misfit_on : None ≡ call_fault_lem (heads (entries d)) (says x.line) → misfit (heads (entries d)) (k + 1) (drop k (entries d)) ≡ misfit (heads (entries d)) (k + 1 + 1) (drop (k + 1) (entries d))
  misfit_on e = step ∙ ap (found (heads (entries d)) (k + 1) (drop (k + 1) (entries d))) (sym e)

  pub misfit_here : (cause : Cause) → Some cause ≡ call_fault_lem (heads (entries d)) (says x.line) → misfit (heads (entries d)) (k + 1) (drop k (entries d)) ≡ misfit_at cause (k + 1)
  misfit_here cause e = step ∙ ap (found (heads (entries d)) (k + 1) (drop (k + 1) (entries d))) (sym e)

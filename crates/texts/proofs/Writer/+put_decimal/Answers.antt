use Rattle.std.proofs.Common.{[], ◌∷◌, arith}
use Rattle.texts.proofs.Laying.{adds_then}
use Rattle.texts.proofs.Digits.{one_digit, more_digits}
use Rattle.texts.proofs.Writer.+put_decimal.Goals.{then-n-ge10, else-n-ge10}
use Rattle.texts.proofs.Writer.+put_decimal.Goals as goal

pub returns : goal.returns
returns t c =
    let last = c.last_digit in
    elim c.if-n-ge10.branch [
      | then-n-ge10 w ↦ rw (more_digits c.args.n last.result last.ensures w.if-n-ge10.true (omega arith)) (adds_then _ (last.result ∷ []) _ c.if-n-ge10.self _ (rw w.self-is w.put_decimal.ensures) c.put.ensures)
      | else-n-ge10 w ↦ rw (one_digit c.args.n last.result last.ensures w.if-n-ge10.false, ← w.self-is) c.put.ensures
    ]

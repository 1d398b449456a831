-- How long the line of a statement is. Assumes nothing.
use Rattle.std.proofs.Common.{ℕ, ◌+◌, ◌*◌, ◌≤◌, List, [], ◌∷◌, map, length, decimal, arith}
use Rattle.std.specs.Fmt.{signed_decimal}
use Rattle.std.proofs.lemmas.List.{length-append}
use Rattle.std.proofs.lemmas.Fmt.{length-decimal-le, length_signed_le}
use Rattle.numeral.proofs.Numbers.{mag_le_size}
use Rattle.fields.specs.Cutting.{comma, joined}
use Rattle.line.specs.Statements.{Statement, a_rule, a_tell, an_and, an_or, a_new, a_call, words, AllSlots, InRange}

-- a field and slots behind it
pub slots_short : (f : List ℕ) (slots : List ℕ) → AllSlots slots → length (joined (f ∷ map decimal slots)) ≤ length f + 3 * length slots
slots_short f [] a = omega arith
slots_short f (s ∷ ss) a =
    let d = length-decimal-le 2 s (omega arith) (omega arith) (omega arith) in
    let h = slots_short (decimal s) ss a.1 in
    omega (arith, length-append f (comma ∷ joined (decimal s ∷ map decimal ss)))

-- a line has at most 55 bytes
pub words_short : (s : Statement) → InRange s → length (joined (words s)) ≤ 55
words_short (a_rule p) r = omega (arith, length-decimal-le 2 p (omega arith) (omega arith) (omega arith))
words_short (a_tell code k slots) r =
    let d = length-decimal-le 3 code (omega arith) (omega arith) (omega arith) in
    let m = mag_le_size k in
    let e = length_signed_le 4 k (omega arith) (omega arith) in
    let h = slots_short (signed_decimal k) slots r.3 in
    omega (arith, length-append (decimal code) (comma ∷ joined (signed_decimal k ∷ map decimal slots)))
words_short an_and r = omega arith
words_short an_or r = omega arith
words_short a_new r = omega arith
words_short (a_call r slots) i =
    let d = length-decimal-le 2 r (omega arith) (omega arith) (omega arith) in
    let h = slots_short (decimal r) slots i.2 in
    omega arith

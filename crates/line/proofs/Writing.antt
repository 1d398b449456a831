-- The line of a statement can be cut into its fields again: it has a byte, and no field of it has a comma or a newline. Assumes nothing.
use Rattle.std.proofs.Common.{◌≡◌, ℕ, ◌^◌, ◌<◌, ◌≤◌, Bool, true, ◌&&◌, leb, List, [], ◌∷◌, map, length, ℤ, pos, negsuc, codes, decimal, sym, refl, subst, arith, rules}
use Rattle.std.specs.Char.{is_ascii_digit}
use Rattle.std.specs.Fmt.{signed_decimal}
use Rattle.std.specs.Str.{all_ascii_digits}
use Rattle.std.proofs.lemmas.Fmt.{digits_decimal}
use Rattle.std.proofs.lemmas.Bool.{and_parts, leb-true}
use Rattle.fields.specs.Cutting.{newline, comma, fields, joined, Without, AllWithout}
use Rattle.fields.proofs.Joining.{fields_joined, without_joined}
use Rattle.numeral.specs.Reads.{size}
use Rattle.numeral.proofs.Digits.{own}
use Rattle.line.specs.Statements.{Statement, a_rule, a_tell, an_and, an_or, a_new, a_call, words, AllSlots, InRange}

-- no byte is below the minus
high : List ℕ → Bool
high [] = true
high (b ∷ bs) = leb 45 b && high bs

high_without : (c : ℕ) (bs : List ℕ) → c < 45 → high bs ≡ true → Without c bs
unfolding high
high_without c [] h e = tt
high_without c (b ∷ bs) h e =
    let p = and_parts (leb 45 b) (high bs) e in
    ((λ s. omega (arith, leb-true 45 b p.0)), high_without c bs h p.1)

digit_high : (b : ℕ) → is_ascii_digit b ≡ true → 45 ≤ b
digit_high b e = search rules

digits_without : (c : ℕ) (bs : List ℕ) → c < 45 → all_ascii_digits bs ≡ true → Without c bs
digits_without c [] h e = tt
digits_without c (b ∷ bs) h e =
    let p = and_parts (is_ascii_digit b) (all_ascii_digits bs) e in
    ((λ s. omega (arith, digit_high b p.0)), digits_without c bs h p.1)

decimal_without : (c n : ℕ) → c < 45 → n < 2 ^ 64 → Without c (decimal n)
decimal_without c n h small = digits_without c (decimal n) h (digits_decimal own n small)

signed_without : (c : ℕ) (k : ℤ) → c < 45 → size k < 2 ^ 64 → Without c (signed_decimal k)
signed_without c (pos n) h small = decimal_without c n h small
signed_without c (negsuc n) h small = ((λ s. omega arith), decimal_without c _ h small)

slots_without : (c : ℕ) (ss : List ℕ) → c < 45 → AllSlots ss → AllWithout c (map decimal ss)
slots_without c [] h a = tt
slots_without c (s ∷ ss) h a =
    (decimal_without c s h (omega (arith, a.0)), slots_without c ss h a.1)

words_without : (c : ℕ) → c < 45 → (s : Statement) → InRange s → AllWithout c (words s)
unfolding high
words_without c h (a_rule p) r = (high_without c (codes "rule") h refl, (decimal_without c p h (omega arith), tt))
words_without c h (a_tell code k ss) r =
    (high_without c (codes "tell") h refl, (decimal_without c code h (omega (arith, r.0)), (signed_without c k h (omega (arith, r.1)), slots_without c ss h r.3)))
words_without c h an_and r = (high_without c (codes "and") h refl, tt)
words_without c h an_or r = (high_without c (codes "or") h refl, tt)
words_without c h a_new r = (high_without c (codes "new") h refl, tt)
words_without c h (a_call v ss) r =
    (high_without c (codes "call") h refl, (decimal_without c v h (omega (arith, r.0)), slots_without c ss h r.2))

pub words_comma : (s : Statement) → InRange s → AllWithout comma (words s)
words_comma s r = words_without comma (omega arith) s r

pub words_newline : (s : Statement) → InRange s → AllWithout newline (words s)
words_newline s r = words_without newline (omega arith) s r

pub words_some : (s : Statement) → (f : List ℕ) × (fs : List (List ℕ)) × (words s ≡ f ∷ fs)
words_some (a_rule p) = (_, _, refl)
words_some (a_tell code k ss) = (_, _, refl)
words_some an_and = (_, _, refl)
words_some an_or = (_, _, refl)
words_some a_new = (_, _, refl)
words_some (a_call v ss) = (_, _, refl)

-- the line of a statement is not empty
pub line_some : (s : Statement) → 0 < length (joined (words s))
line_some (a_rule p) = omega arith
line_some (a_tell code k ss) = omega arith
line_some an_and = omega arith
line_some an_or = omega arith
line_some a_new = omega arith
line_some (a_call v ss) = omega arith

-- and has no newline in it
pub line_newline : (s : Statement) → InRange s → Without newline (joined (words s))
line_newline s r = without_joined newline (words s) (λ e. omega arith) (words_newline s r)

-- its fields are the words
pub line_fields : (s : Statement) → InRange s → fields (joined (words s)) ≡ words s
line_fields s r =
    let w = words_some s in
    let plain = subst (AllWithout comma) w.2 (words_comma s r) in
    subst (λ ws. fields (joined ws) ≡ ws) (sym w.2) (fields_joined w.0 w.1 plain)

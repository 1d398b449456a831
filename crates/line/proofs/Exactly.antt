-- A line is read as a statement exactly if it is the line of that statement, and the statement is in range. Assumes nothing.
use Rattle.std.proofs.Common.{◌≡◌, ℕ, ◌+◌, ◌≤◌, true, leb, List, [], ◌∷◌, map, length, ℤ, Some, None, Ok, Err, codes, decimal, Option, Result, sym, refl, ap, ◌∙◌, subst, arith}
use Rattle.std.specs.Fmt.{signed_decimal}
use Rattle.std.proofs.lemmas.List.{length-map}
use Rattle.std.proofs.lemmas.Bool.{cond_both, cond-true, and_from, and_parts, leb-true, le-leb}
use Rattle.numeral.specs.Reads.{as_number, as_signed, size, Reads, ReadsSigned}
use Rattle.numeral.proofs.Numbers.{number_reads, reads_is, signed_reads, reads_signed_is}
use Rattle.line.specs.declared.Fault.{Fault}
use Rattle.line.specs.declared.Fault.TheVariants.{UnknownWord, FieldCount, BadNumber}
use Rattle.line.specs.declared.Word.{Word}
use Rattle.line.specs.declared.Word.TheVariants.{Rule, And, Or, New, Call, Tell}
use Rattle.line.specs.Reading.{Outcome, said, wrong, word_of, least, most, takes, unless, and_then, as_slots, numbered, counted, outcome, Exact}
use Rattle.line.specs.Statements.{Statement, a_rule, a_tell, an_and, an_or, a_new, a_call, words, InRange}
use Rattle.line.proofs.Slotting.{Write, slots_write, slots_written}
use Rattle.line.proofs.Spelling.{spelling, Spelled, spelled}

-- what is said is in range, and is what the fields write
abbrev pub Sound : List (List ℕ) → Outcome → Type 0
Sound fs (said s) = InRange s × (fs ≡ words s)
Sound fs (wrong e) = Unit {0}

few : (w : Word) (count : ℕ) → takes w count ≡ true → count ≤ most w
few w count h = leb-true count (most w) (and_parts (leb (least w) count) (leb count (most w)) h).1

rule_sound : (n : ℕ) (f : List ℕ) (r : Option ℕ) → Reads 16 f r → Sound (codes "rule" ∷ f ∷ []) (and_then (unless (BadNumber n) r) (λ p. said (a_rule p)))
rule_sound n f None p = tt
rule_sound n f (Some v) p = (p.0, ap (λ g. codes "rule" ∷ g ∷ []) p.1)

call_slots_sound : (f : List ℕ) (fs : List (List ℕ)) (v : ℕ) (r : Result (List ℕ) Fault) → length fs ≤ 16 → (v ≤ 63) × (f ≡ decimal v) → Write fs r → Sound (codes "call" ∷ f ∷ fs) (and_then r (λ ss. said (a_call v ss)))
call_slots_sound f fs v (Err e) h p q = tt
call_slots_sound f fs v (Ok ss) h p q =
    let count : length ss ≤ 16 = omega (arith, ap length q.0, length-map ss decimal) in
    ((p.0, count, q.1), λ i. codes "call" ∷ p.1 i ∷ q.0 i)

call_sound : (n : ℕ) (f : List ℕ) (fs : List (List ℕ)) (r : Option ℕ) → length fs ≤ 16 → Reads 63 f r → Sound (codes "call" ∷ f ∷ fs) (and_then (unless (BadNumber (n + 1)) r) (λ v. and_then (as_slots (n + 1) [] fs) (λ ss. said (a_call v ss))))
call_sound n f fs None h p = tt
call_sound n f fs (Some v) h p = call_slots_sound f fs v (as_slots (n + 1) [] fs) h p (slots_write (n + 1) fs)

tell_slots_sound : (f g : List ℕ) (fs : List (List ℕ)) (v : ℕ) (k : ℤ) (r : Result (List ℕ) Fault) → length fs ≤ 3 → (v ≤ 255) × (f ≡ decimal v) → (size k ≤ 1000) × (g ≡ signed_decimal k) → Write fs r → Sound (codes "tell" ∷ f ∷ g ∷ fs) (and_then r (λ ss. said (a_tell v k ss)))
tell_slots_sound f g fs v k (Err e) h p s q = tt
tell_slots_sound f g fs v k (Ok ss) h p s q =
    let count : length ss ≤ 3 = omega (arith, ap length q.0, length-map ss decimal) in
    ((p.0, s.0, count, q.1), λ i. codes "tell" ∷ p.1 i ∷ s.1 i ∷ q.0 i)

tell_k_sound : (n : ℕ) (f g : List ℕ) (fs : List (List ℕ)) (v : ℕ) (r : Option ℤ) → length fs ≤ 3 → (v ≤ 255) × (f ≡ decimal v) → ReadsSigned 1000 g r → Sound (codes "tell" ∷ f ∷ g ∷ fs) (and_then (unless (BadNumber n) r) (λ k. and_then (as_slots n [] fs) (λ ss. said (a_tell v k ss))))
tell_k_sound n f g fs v None h p s = tt
tell_k_sound n f g fs v (Some k) h p s = tell_slots_sound f g fs v k (as_slots n [] fs) h p s (slots_write n fs)

tell_sound : (n : ℕ) (f g : List ℕ) (fs : List (List ℕ)) (r : Option ℕ) → length fs ≤ 3 → Reads 255 f r → Sound (codes "tell" ∷ f ∷ g ∷ fs) (and_then (unless (BadNumber (n + 1)) r) (λ v. and_then (unless (BadNumber (n + 1 + 1)) (as_signed 1000 g)) (λ k. and_then (as_slots (n + 1 + 1) [] fs) (λ ss. said (a_tell v k ss)))))
tell_sound n f g fs None h p = tt
tell_sound n f g fs (Some v) h p = tell_k_sound (n + 1 + 1) f g fs v (as_signed 1000 g) h p (signed_reads 1000 g)

told_one : (f : List ℕ) (n : ℕ) (r : Option ℕ) → Sound (codes "tell" ∷ f ∷ []) (and_then (unless (BadNumber n) r) (λ v. wrong FieldCount))
told_one f n None = tt
told_one f n (Some v) = tt

numbered_sound : (w : Word) (n : ℕ) (fs : List (List ℕ)) → length fs ≤ most w → Sound (spelling w ∷ fs) (numbered w n fs)
numbered_sound Rule n [] h = tt
numbered_sound Rule n (f ∷ []) h = rule_sound (n + 1) f (as_number 16 f) (number_reads 16 f)
numbered_sound Rule n (f ∷ g ∷ fs) h = absurd (omega arith)
numbered_sound And n [] h = (tt, refl)
numbered_sound And n (f ∷ fs) h = absurd (omega arith)
numbered_sound Or n [] h = (tt, refl)
numbered_sound Or n (f ∷ fs) h = absurd (omega arith)
numbered_sound New n [] h = (tt, refl)
numbered_sound New n (f ∷ fs) h = absurd (omega arith)
numbered_sound Call n [] h = tt
numbered_sound Call n (f ∷ fs) h = call_sound n f fs (as_number 63 f) (omega arith) (number_reads 63 f)
numbered_sound Tell n [] h = tt
numbered_sound Tell n (f ∷ []) h = told_one f (n + 1) (as_number 255 f)
numbered_sound Tell n (f ∷ g ∷ fs) h = tell_sound n f g fs (as_number 255 f) (omega arith) (number_reads 255 f)

counted_sound : (w : Word) (n : ℕ) (fs : List (List ℕ)) → Sound (spelling w ∷ fs) (counted w n fs)
counted_sound w n fs =
    cond_both (takes w (length fs)) (numbered w n fs) (wrong FieldCount) (Sound (spelling w ∷ fs))
    (λ h. numbered_sound w n fs (few w (length fs) h))
    (λ _. tt)

word_sound : (n : ℕ) (f : List ℕ) (fs : List (List ℕ)) (r : Option Word) → Spelled f r → Sound (f ∷ fs) (and_then (unless UnknownWord r) (λ w. counted w n fs))
word_sound n f fs None p = tt
word_sound n f fs (Some w) p = subst (λ g. Sound (g ∷ fs) (counted w n fs)) (sym p) (counted_sound w n fs)

pub sound : (n : ℕ) (fs : List (List ℕ)) → Sound fs (outcome n fs)
sound n [] = tt
sound n (f ∷ fs) = word_sound (n + 1) f fs (word_of f) (spelled f)

call_complete : (n r : ℕ) (ss : List ℕ) → InRange (a_call r ss) → counted Call n (decimal r ∷ map decimal ss) ≡ said (a_call r ss)
call_complete n r ss h =
    let fs = decimal r ∷ map decimal ss in
    let low = le-leb 1 (length fs) (omega arith) in
    let high = le-leb (length fs) 17 (omega (arith, h.1, length-map ss decimal)) in
    let rule = reads_is 63 (decimal r) (Some r) (omega arith) (h.0, refl) in
    cond-true (takes Call (length fs)) (numbered Call n fs) (wrong FieldCount) (and_from _ _ low high)
    ∙ ap (λ o. and_then (unless (BadNumber (n + 1)) o) (λ v. and_then (as_slots (n + 1) [] (map decimal ss)) (λ ss. said (a_call v ss)))) (sym rule)
    ∙ ap (λ o. and_then o (λ ss. said (a_call r ss))) (slots_written (n + 1) ss h.2)

tell_complete : (n code : ℕ) (k : ℤ) (ss : List ℕ) → InRange (a_tell code k ss) → counted Tell n (decimal code ∷ signed_decimal k ∷ map decimal ss) ≡ said (a_tell code k ss)
tell_complete n code k ss h =
    let fs = decimal code ∷ signed_decimal k ∷ map decimal ss in
    let low = le-leb 2 (length fs) (omega arith) in
    let high = le-leb (length fs) 5 (omega (arith, h.2, length-map ss decimal)) in
    let first = reads_is 255 (decimal code) (Some code) (omega arith) (h.0, refl) in
    let second = reads_signed_is 1000 (signed_decimal k) (Some k) (omega arith) (h.1, refl) in
    let behind : ℤ → Outcome = λ k. and_then (as_slots (n + 1 + 1) [] (map decimal ss)) (λ ss. said (a_tell code k ss)) in
    cond-true (takes Tell (length fs)) (numbered Tell n fs) (wrong FieldCount) (and_from _ _ low high)
    ∙ ap (λ o. and_then (unless (BadNumber (n + 1)) o) (λ code. and_then (unless (BadNumber (n + 1 + 1)) (as_signed 1000 (signed_decimal k))) (λ k. and_then (as_slots (n + 1 + 1) [] (map decimal ss)) (λ ss. said (a_tell code k ss))))) (sym first)
    ∙ ap (λ o. and_then (unless (BadNumber (n + 1 + 1)) o) behind) (sym second)
    ∙ ap (λ o. and_then o (λ ss. said (a_tell code k ss))) (slots_written (n + 1 + 1) ss h.3)

rule_complete : (n p : ℕ) → p ≤ 16 → counted Rule n (decimal p ∷ []) ≡ said (a_rule p)
rule_complete n p h =
    ap (λ o. and_then (unless (BadNumber (n + 1)) o) (λ p. said (a_rule p))) (sym (reads_is 16 (decimal p) (Some p) (omega arith) (h, refl)))

pub complete : (n : ℕ) (s : Statement) → InRange s → outcome n (words s) ≡ said s
complete n (a_rule p) h = rule_complete (n + 1) p h
complete n (a_tell code k ss) h = tell_complete (n + 1) code k ss h
complete n an_and h = refl
complete n an_or h = refl
complete n a_new h = refl
complete n (a_call r ss) h = call_complete (n + 1) r ss h

pub exact : (n : ℕ) (fs : List (List ℕ)) → Exact fs (outcome n fs)
exact n fs =
    record { reads = λ s h e. ap (outcome n) e ∙ complete n s h; only = λ s e. subst (Sound fs) e (sound n fs) }

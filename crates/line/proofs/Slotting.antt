-- Fields are read as slots exactly if they write them. Assumes nothing.
use Rattle.std.proofs.Common.{◌≡◌, ℕ, ◌+◌, ◌≤◌, List, [], ◌∷◌, ◌++◌, map, Some, None, Ok, Err, decimal, Option, Result, sym, refl, ap, ◌∙◌, subst, append_assoc, append-nil, arith}
use Rattle.numeral.specs.Reads.{as_number, Reads}
use Rattle.numeral.proofs.Numbers.{number_reads, reads_is}
use Rattle.line.specs.declared.Fault.{Fault}
use Rattle.line.specs.declared.Fault.TheVariants.{BadNumber}
use Rattle.line.specs.Reading.{unless, number_of, as_slots}
use Rattle.line.specs.Statements.{AllSlots}

-- how `as_slots` goes on, once its first field is read
went : ℕ → List ℕ → List (List ℕ) → Result ℕ Fault → Result (List ℕ) Fault
went n done fs r = elim r [ Ok v ↦ as_slots (n + 1) (done ++ v ∷ []) fs | Err e ↦ Err e ]

-- the loop's step
pub slots_more : (n : ℕ) (done : List ℕ) (fs gs : List (List ℕ)) (f : List ℕ) (v : ℕ) → fs ≡ f ∷ gs → Ok v ≡ number_of 15 (n + 1) f → as_slots n done fs ≡ as_slots (n + 1) (done ++ v ∷ []) gs
unfolding went
slots_more n done fs gs f v e r = ap (as_slots n done) e ∙ ap (went n done gs) (sym r)

-- the slots are those that were done, and then those that the fields write
Slotted : List ℕ → List (List ℕ) → Result (List ℕ) Fault → Type 0
Slotted done fs (Ok vs) = (ss : List ℕ) × (vs ≡ done ++ ss) × (fs ≡ map decimal ss) × AllSlots ss
Slotted done fs (Err e) = Unit {0}

more_slotted : (done : List ℕ) (f : List ℕ) (fs : List (List ℕ)) (v : ℕ) (r : Result (List ℕ) Fault) → (v ≤ 15) × (f ≡ decimal v) → Slotted (done ++ v ∷ []) fs r → Slotted done (f ∷ fs) r
unfolding Slotted
more_slotted done f fs v (Err e) p q = tt
more_slotted done f fs v (Ok vs) p q =
    (v ∷ q.0, q.1 ∙ append_assoc done (v ∷ []) q.0, (λ i. p.1 i ∷ q.2 i), (p.0, q.3))

first_slotted : (n : ℕ) (done : List ℕ) (f : List ℕ) (fs : List (List ℕ)) (r : Option ℕ) → Reads 15 f r → ((v : ℕ) → Slotted (done ++ v ∷ []) fs (as_slots (n + 1) (done ++ v ∷ []) fs)) → Slotted done (f ∷ fs) (went n done fs (unless (BadNumber (n + 1)) r))
unfolding Slotted went
first_slotted n done f fs None p more = tt
first_slotted n done f fs (Some v) p more = more_slotted done f fs v (as_slots (n + 1) (done ++ v ∷ []) fs) p (more v)

slots_slotted : (n : ℕ) (done : List ℕ) (fs : List (List ℕ)) → Slotted done fs (as_slots n done fs)
unfolding Slotted went
slots_slotted n done [] = ([], sym (append-nil done), refl, tt)
slots_slotted n done (f ∷ fs) =
    first_slotted n done f fs (as_number 15 f) (number_reads 15 f) (λ v. slots_slotted (n + 1) (done ++ v ∷ []) fs)

-- the fields write these slots
abbrev pub Write : List (List ℕ) → Result (List ℕ) Fault → Type 0
Write fs (Ok ss) = (fs ≡ map decimal ss) × AllSlots ss
Write fs (Err e) = Unit {0}

slotted_write : (fs : List (List ℕ)) (r : Result (List ℕ) Fault) → Slotted [] fs r → Write fs r
unfolding Slotted
slotted_write fs (Err e) q = tt
slotted_write fs (Ok vs) q = subst (λ z. (fs ≡ map decimal z) × AllSlots z) (sym q.1) (q.2, q.3)

pub slots_write : (n : ℕ) (fs : List (List ℕ)) → Write fs (as_slots n [] fs)
slots_write n fs = slotted_write fs (as_slots n [] fs) (slots_slotted n [] fs)

written_on : (n : ℕ) (done ss : List ℕ) → AllSlots ss → as_slots n done (map decimal ss) ≡ Ok (done ++ ss)
unfolding went
written_on n done [] h = ap Ok (sym (append-nil done))
written_on n done (s ∷ ss) h =
    let one = reads_is 15 (decimal s) (Some s) (omega arith) (h.0, refl) in
    ap (λ r. went n done (map decimal ss) (unless (BadNumber (n + 1)) r)) (sym one) ∙ written_on (n + 1) (done ++ s ∷ []) ss h.1 ∙ ap Ok (append_assoc done (s ∷ []) ss)

pub slots_written : (n : ℕ) (ss : List ℕ) → AllSlots ss → as_slots n [] (map decimal ss) ≡ Ok ss
slots_written n ss h = written_on n [] ss h

-- One piece after another in a part. Assumes nothing.
use Rattle.std.proofs.Common.{◌≡◌, ℕ, ◌+◌, ◌<◌, true, false, List, [], ◌∷◌, ◌++◌, length, take, drop, set, replicate, is_some, Some, None, Option, sym, refl, ap, ◌∙◌, subst, append_assoc, arith}
use Rattle.std.proofs.lemmas.List.{length-append, length-drop, length_push, set_at, take_at, drop_at, drop_more}
use Rattle.std.proofs.lemmas.Bool.{both_ways}
use Rattle.texts.specs.declared.Writer.{Writer}
use Rattle.texts.specs.Pieces.{Laid, Wrote, Begun, Adds, Ends}

-- a byte written at the end, and an end one behind it
pub adds_byte : (p text q s : List ℕ) (n b m : ℕ) → n < length q → s ≡ set q n b → m ≡ n + 1 → Wrote p text q (Some n) → Wrote p (text ++ b ∷ []) s (Some m)
adds_byte p text q s n b m l wrote behind L =
    let long : length q ≡ length p = (let e = ap length L.holds ∙ length-append text (drop n p) in omega (arith, L.len, L.room, length-drop n p)) in
    let lt : n < length p = omega arith in
    let rest : drop (n + 1) p ≡ drop m p = ap (λ (k : ℕ). drop k p) (sym behind) in
    record {
      len = behind ∙ ap (λ (k : ℕ). k + 1) L.len ∙ sym (length_push text b);
      room = omega arith;
      holds = wrote ∙ ap (λ (xs : List ℕ). set xs n b) (L.holds ∙ ap (λ (xs : List ℕ). text ++ xs) (drop_more p n 0 lt)) ∙ set_at text _ (drop (n + 1) p) b n (sym L.len) ∙ sym (append_assoc text (b ∷ []) (drop (n + 1) p)) ∙ ap (λ (xs : List ℕ). (text ++ b ∷ []) ++ xs) rest;
    }

-- a piece after a piece
pub adds_then : (s t : List ℕ) (u v w : Writer) → Adds s u v → Adds t v w → Adds (s ++ t) u w
adds_then s t u v w A B = record {
  lender = B.lender ∙ A.lender;
  length = B.length ∙ A.length;
  adds = λ p text h. subst (λ (xs : List ℕ). Wrote p xs w.part.now w.end) (append_assoc text s t) (B.adds p (text ++ s) (A.adds p text h));
}

pub adds_after : (b : ℕ) (t : List ℕ) (u v w : Writer) → Adds (b ∷ []) u v → Adds t v w → Adds (b ∷ t) u w
adds_after b = adds_then (b ∷ [])

-- once there was no room, there is none for more
pub adds_lost : (t : List ℕ) (v : Writer) → is_some v.end ≡ false → Adds t v v
adds_lost t v e = record { lender = refl; length = refl; adds = λ p text h. by_end v.end e p text h }
  where
    by_end : (o : Option ℕ) → is_some o ≡ false → (p text : List ℕ) → Wrote p text v.part.now o → Wrote p (text ++ t) v.part.now o
    by_end (Some n) e p text h = absurd (both_ways true e refl)
    by_end None e p text h = omega (arith, length-append text t)

-- how a part ends that a text was written in from its front
abbrev pub Written : List ℕ → List ℕ → Option ℕ → List ℕ → Type 0
Written p t (Some n) q = Laid p t q n
Written p t None q = (length p < length t) × (q ≡ replicate (length p) 0)

pub written : (p t q : List ℕ) (r : Option ℕ) (v w : Writer) → Begun p v → Adds t v w → Ends w r q → Written p t r q
written p t q r v w B A E = by_end r E
  where
    all : Wrote p t w.part.now w.end
    all = A.adds p [] (rw (B.holds, B.end) record { len = refl; room = omega arith; holds = refl })

    by_end : (r : Option ℕ) → Ends w r q → Written p t r q
    by_end (Some n) E = rw E.1 (subst (Wrote p t w.part.now) E.0 all)
    by_end None E = (subst (Wrote p t w.part.now) E.0 all, E.1 ∙ ap (λ (n : ℕ). replicate n 0) (A.length ∙ ap length B.holds))

pub laid_front : (p t q : List ℕ) (n : ℕ) → Laid p t q n → take n q ≡ t
laid_front p t q n L = ap (take n) L.holds ∙ take_at t (drop n p) n (sym L.len)

pub laid_rest : (p t q : List ℕ) (n : ℕ) → Laid p t q n → drop n q ≡ drop n p
laid_rest p t q n L = ap (drop n) L.holds ∙ drop_at t (drop n p) n (sym L.len)

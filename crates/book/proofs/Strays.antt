-- The first slot that is not in scope, by its place. Assumes nothing.
use Rattle.std.proofs.Common.{◌≡◌, ℕ, ◌+◌, Bool, true, false, cond, not, List, [], ◌∷◌, Some, None, Option, sym, refl, ap, ◌∙◌, arith}
use Rattle.std.specs.Prelude.{nat_lt}
use Rattle.std.specs.List.{position_from}
use Rattle.book.specs.Reading.{stray}

-- the field of the slot at a place, where n is the number of the field before the slots
abbrev pub field_at : ℕ → Option ℕ → Option ℕ
field_at n None = None
field_at n (Some j) = Some (n + j + 1)

one : (b : Bool) (n i : ℕ) (s r : Option ℕ) → s ≡ field_at n r → cond b s (Some (n + i + 1)) ≡ field_at n (cond (not b) (Some i) r)
one true n i s r e = e
one false n i s r e = refl

stray_from : (scope n i : ℕ) (xs : List ℕ) → stray scope (n + i) xs ≡ field_at n (position_from (λ x. not (nat_lt x scope)) i xs)
stray_from scope n i [] = refl
stray_from scope n i (x ∷ xs) = one (nat_lt x scope) n i _ _ (ap (λ m. stray scope m xs) (omega arith) ∙ stray_from scope n (i + 1) xs)

module _ (scope n : ℕ) (xs : List ℕ) where
  found : (r : Option ℕ) → r ≡ position_from (λ x. not (nat_lt x scope)) 0 xs → field_at n r ≡ stray scope n xs
  found r e = ap (field_at n) e ∙ sym (stray_from scope n 0 xs) ∙ ap (λ m. stray scope m xs) (omega arith)

  pub stray_none : None ≡ position_from (λ x. not (nat_lt x scope)) 0 xs → None ≡ stray scope n xs
  stray_none e = found None e

  pub stray_some : (j : ℕ) → Some j ≡ position_from (λ x. not (nat_lt x scope)) 0 xs → Some (n + j + 1) ≡ stray scope n xs
  stray_some j e = found (Some j) e

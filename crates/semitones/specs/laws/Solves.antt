-- The solutions of a record, node by node. Assumes nothing.
use Rattle.std.specs.Prelude.{◌≡◌, ℕ, zero, suc, ◌<◌, ◌≤◌, true, false, ℤ, pos, ◌+ℤ◌, slice_index_or, refl}
use Rattle.std.proofs.Common.{⊎_elim, sym, ap, subst, ◌∙◌, arith}
use Rattle.std.proofs.Math.IntN.{+ℤ_idl}
use Rattle.std.proofs.lemmas.Bool.{and_from, and_parts, cases_eq, both_ways}
use Rattle.std.proofs.lemmas.Bool.Decides.{Decides-int_eq}
use Rattle.bank.specs.Kinds.{Value, number, pair, Assignment, all_admitted}
use Rattle.semitones.specs.Whole.{whole, is_number, number_of}
use Rattle.std.specs.Ordering.{int_eq}
use Rattle.records.proofs.Reaching
use Rattle.semitones.specs.Cells.{Record, lone, node, no_cell, cell_of, root_of_lem, by_of, agrees, solves, Sound}

pub eq_z_true : (x y : ℤ) → int_eq x y ≡ true → x ≡ y
eq_z_true x y = (Decides-int_eq x y).0

pub eq_eq_z : (x y : ℤ) → x ≡ y → int_eq x y ≡ true
eq_eq_z x y = (Decides-int_eq x y).1

-- a cell in use, and one that is not
pub cell_in : (r : Record) (a : ℕ) → a < r.used → cell_of r a ≡ slice_index_or r.cells a no_cell
cell_in = Reaching.cell_in lone

pub cell_out : (r : Record) (a : ℕ) → r.used ≤ a → cell_of r a ≡ record { root = a; by = pos 0 }
cell_out = Reaching.cell_out lone

pub agrees_from : (r : Record) (σ : Assignment) (n : ℕ) → ((a : ℕ) → a < n → node σ a ≡ node σ (root_of_lem r a) +ℤ by_of r a) → agrees r n σ ≡ true
unfolding agrees
agrees_from r σ zero h = refl
agrees_from r σ (suc n) h =
    and_from (int_eq (node σ n) (node σ (root_of_lem r n) +ℤ by_of r n)) (agrees r n σ) (eq_eq_z _ _ (h n (omega arith))) (agrees_from r σ n (λ a l. h a (omega arith)))

agrees_at : (r : Record) (σ : Assignment) (n : ℕ) → agrees r n σ ≡ true → (a : ℕ) → a < n → node σ a ≡ node σ (root_of_lem r a) +ℤ by_of r a
unfolding agrees
agrees_at r σ zero e a l = let z : ⊥ = omega arith in absurd z
agrees_at r σ (suc n) e a l =
    let parts = and_parts (int_eq (node σ n) (node σ (root_of_lem r n) +ℤ by_of r n)) (agrees r n σ) e in
    ⊎_elim (λ (q : a ≡ n). subst (λ (x : ℕ). node σ x ≡ node σ (root_of_lem r x) +ℤ by_of r x) (sym q) (eq_z_true _ _ parts.0))
    (λ ne. agrees_at r σ n parts.1 a (omega arith)) (cases_eq a n)

pub admitted_from : (σ : Assignment) (n : ℕ) → ((a : ℕ) → a < n → is_number (σ a) ≡ true) → all_admitted whole n σ ≡ true
unfolding all_admitted
admitted_from σ zero h = refl
admitted_from σ (suc n) h = and_from (is_number (σ n)) (all_admitted whole n σ) (h n (omega arith)) (admitted_from σ n (λ a l. h a (omega arith)))

admitted_at : (σ : Assignment) (n : ℕ) → all_admitted whole n σ ≡ true → (a : ℕ) → a < n → is_number (σ a) ≡ true
unfolding all_admitted
admitted_at σ zero t a l = let z : ⊥ = omega arith in absurd z
admitted_at σ (suc n) t a l =
    let p = and_parts (is_number (σ n)) (all_admitted whole n σ) t in
    ⊎_elim (λ (q : a ≡ n). subst (λ (i : ℕ). is_number (σ i) ≡ true) (sym q) p.0) (λ ne. admitted_at σ n p.1 a (omega arith)) (cases_eq a n)

-- a solution, and what it says of a node and of a variable
pub solves_from : (r : Record) (σ : Assignment) → all_admitted whole 256 σ ≡ true → ((a : ℕ) → a < 257 → node σ a ≡ node σ (root_of_lem r a) +ℤ by_of r a) → solves r σ ≡ true
unfolding solves
solves_from r σ adm h = and_from (all_admitted whole 256 σ) (agrees r 257 σ) adm (agrees_from r σ 257 h)

pub solves_admits : (r : Record) (σ : Assignment) → solves r σ ≡ true → all_admitted whole 256 σ ≡ true
unfolding solves
solves_admits r σ t = (and_parts (all_admitted whole 256 σ) (agrees r 257 σ) t).0

pub solves_at : (r : Record) (σ : Assignment) → solves r σ ≡ true → (a : ℕ) → a < 257 → node σ a ≡ node σ (root_of_lem r a) +ℤ by_of r a
unfolding solves
solves_at r σ t = agrees_at r σ 257 (and_parts (all_admitted whole 256 σ) (agrees r 257 σ) t).1

is_its_number : (w : Value) → is_number w ≡ true → w ≡ number (number_of w)
is_its_number (number z) h = refl
is_its_number (pair u v) h = absurd (both_ways false refl h)

pub solves_number : (r : Record) (σ : Assignment) → solves r σ ≡ true → (v : ℕ) → v < 256 → σ v ≡ number (number_of (σ v))
solves_number r σ t v h = is_its_number (σ v) (admitted_at σ 256 (solves_admits r σ t) v h)

-- the assignment by the distances themselves
pub given : Record → Assignment
given r v = number (by_of r (suc v))

pub given_node : (r : Record) → Sound r → (a : ℕ) → node (given r) a ≡ by_of r a
unfolding given
given_node r S zero =
    let root : root_of_lem r 0 ≡ 0 = omega (arith, S.low 0) in
    sym (S.flat 0) ∙ ap (by_of r) root
given_node r S (suc v) = refl

pub given_solves : (r : Record) → Sound r → solves r (given r) ≡ true
unfolding given
given_solves r S =
    solves_from r (given r) (admitted_from (given r) 256 (λ a h. refl))
    (λ a h. given_node r S a ∙ sym (+ℤ_idl (by_of r a)) ∙ ap (λ (x : ℤ). x +ℤ by_of r a) (sym (given_node r S (root_of_lem r a) ∙ S.flat a)))

-- A record with no cell in use, and one whose nodes lie where another's do. Assumes nothing.
use Rattle.std.proofs.Common.{◌≡◌, ℕ, zero, suc, ◌+◌, ◌*◌, ◌<◌, ◌≤◌, Bool, true, false, cond, ◌&&◌, eqb, ℤ, pos, ◌+ℤ◌, ◌≤ℤ◌, sym, refl, ap, ◌∙◌, ⊎_elim, arith}
use lib.IntN.{+ℤ_idr}
use Rattle.std.proofs.lemmas.Int.{ints}
use Rattle.std.proofs.lemmas.Bool.{eq-eqb, cases_eq}
use Rattle.bank.specs.Kinds.{Assignment, all_admitted}
use Rattle.semitones.specs.declared.cells.Cell.{Cell}
use Rattle.semitones.specs.Whole.{whole}
use Rattle.std.specs.Ordering.{int_eq}
use Rattle.records.specs.Cells.{Alike}
use Rattle.semitones.specs.Cells.{Record, lone, node, root_of_lem, by_of, tied, agrees, solves, Sound}
use Rattle.semitones.specs.Joins.{Same}
use Rattle.semitones.specs.laws.Solves.{cell_out, agrees_from}
use Rattle.semitones.specs.laws.Kept.{sound_out}

-- a node is tied to its own root
tied_some : (r : Record) (a n : ℕ) → a < n → 1 ≤ tied r (root_of_lem r a) n
unfolding tied
tied_some r a zero h = omega arith
tied_some r a (suc n) h = ⊎_elim
    (λ (q : a ≡ n).
    let one : ◌≡◌ {A = ℕ} (cond (eqb (root_of_lem r n) (root_of_lem r a)) 1 0) 1 = ap (λ t. cond {A = ℕ} t 1 0) (eq-eqb (root_of_lem r n) (root_of_lem r a) (ap (root_of_lem r) (sym q))) in
    omega arith)
    (λ ne. let some = tied_some r a n (omega arith) in omega arith)
    (cases_eq a n)

module _ (r : Record) (none : r.used ≡ 0) where
  own : (a : ℕ) → (root_of_lem r a ≡ a) × (by_of r a ≡ pos 0)
  own a = let e = cell_out r a (omega (arith, none)) in (ap (λ (c : Cell). c.root) e, ap (λ (c : Cell). c.by) e)

  pub blank_sound : Sound r
  blank_sound = record {
    few = omega (arith, none);
    low = λ a. omega (arith, (own a).0);
    top = λ a. ap (root_of_lem r) (own a).0;
    flat = λ a. (own (root_of_lem r a)).1;
    near = λ a b h k e. near_zero (by_of r a) (by_of r b) (tied r (root_of_lem r a) 257) (own a).1 (own b).1 (tied_some r a 257 h);
  }
    where
      near_zero : (x y : ℤ) (n : ℕ) → x ≡ pos 0 → y ≡ pos 0 → 1 ≤ n → (x +ℤ pos 1000) ≤ℤ (y +ℤ pos (1000 * n))
      near_zero x y n e f h = omega (arith, ints, e, f)

  pub blank_solves : (σ : Assignment) → solves r σ ≡ all_admitted whole 256 σ
  unfolding solves
  blank_solves σ =
      let here : (a : ℕ) → a < 257 → node σ a ≡ node σ (root_of_lem r a) +ℤ by_of r a =
      λ a h. sym (ap (λ (x : ℤ). node σ (root_of_lem r a) +ℤ x) (own a).1 ∙ +ℤ_idr (node σ (root_of_lem r a)) ∙ ap (node σ) (own a).0) in
      ap (λ (b : Bool). all_admitted whole 256 σ && b) (agrees_from r σ 257 here) ∙ and-true (all_admitted whole 256 σ)
    where
      and-true : (b : Bool) → (b && true) ≡ b
      and-true true = refl
      and-true false = refl

module _ (r s : Record) (A : Same r s) where
  root_same : (a : ℕ) → root_of_lem s a ≡ root_of_lem r a
  root_same a = ap (λ (c : Cell). c.root) (A.cells a)

  by_same : (a : ℕ) → by_of s a ≡ by_of r a
  by_same a = ap (λ (c : Cell). c.by) (A.cells a)

  tied_same : (ρ n : ℕ) → tied s ρ n ≡ tied r ρ n
  unfolding tied
  tied_same ρ zero = refl
  tied_same ρ (suc n) = ap (λ (x : ℕ). cond {A = ℕ} (eqb x ρ) 1 0 + tied s ρ n) (root_same n) ∙ ap (λ (m : ℕ). cond {A = ℕ} (eqb (root_of_lem r n) ρ) 1 0 + m) (tied_same ρ n)

  agrees_same : (σ : Assignment) (n : ℕ) → agrees s n σ ≡ agrees r n σ
  unfolding agrees
  agrees_same σ zero = refl
  agrees_same σ (suc n) =
      ap (λ (c : Cell). int_eq (node σ n) (node σ c.root +ℤ c.by) && agrees s n σ) (A.cells n)
      ∙ ap (λ (b : Bool). int_eq (node σ n) (node σ (root_of_lem r n) +ℤ by_of r n) && b) (agrees_same σ n)

  pub same_solves : (σ : Assignment) → solves s σ ≡ solves r σ
  unfolding solves
  same_solves σ = ap (λ (b : Bool). all_admitted whole 256 σ && b) (agrees_same σ 257)

  pub same_sound : Sound r → Sound s
  same_sound S = record {
    few = A.few;
    low = λ a. omega (arith, root_same a, S.low a);
    top = λ a. ap (root_of_lem s) (root_same a) ∙ root_same (root_of_lem r a) ∙ S.top a ∙ sym (root_same a);
    flat = λ a. ap (by_of s) (root_same a) ∙ by_same (root_of_lem r a) ∙ S.flat a;
    near = λ a b h k e.
        let t : tied s (root_of_lem s a) 257 ≡ tied r (root_of_lem r a) 257 = tied_same (root_of_lem s a) 257 ∙ ap (λ (x : ℕ). tied r x 257) (root_same a) in
        near_as (by_of r a) (by_of r b) (by_of s a) (by_of s b) (tied r (root_of_lem r a) 257) (tied s (root_of_lem s a) 257) (by_same a) (by_same b) t
        (S.near a b h k (sym (root_same a) ∙ e ∙ root_same b));
  }
    where
      near_as : (x y x' y' : ℤ) (m n : ℕ) → x' ≡ x → y' ≡ y → n ≡ m → (x +ℤ pos 1000) ≤ℤ (y +ℤ pos (1000 * m)) → (x' +ℤ pos 1000) ≤ℤ (y' +ℤ pos (1000 * n))
      near_as x y x' y' m n e f g h = omega (arith, ints, e, f)

-- what `Sense` asks of the cells
pub few_used : (r : Record) → ∥ Sound r ∥₁ → r.used ≤ 257
few_used r S = (sound_out r S).few

pub begun : (r : Record) → r.used ≡ 0 → Sound r × ((σ : Assignment) → solves r σ ≡ all_admitted whole 256 σ)
begun r none = (blank_sound r none, blank_solves r none)

pub followed : (r s : Record) → Alike lone r s → ∥ Sound r ∥₁ → Sound s × ((σ : Assignment) → solves s σ ≡ solves r σ)
followed r s A S =
    let out = sound_out r S in
    let same : Same r s = record { few = omega (arith, A.used, out.few); cells = A.cells } in
    (same_sound r s same out, same_solves r s same)

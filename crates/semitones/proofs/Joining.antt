-- One class put under another: the record stays sound, and has the solutions at which the edge holds. Assumes nothing.
use Rattle.std.proofs.Common.{◌≡◌, ℕ, zero, suc, ◌+◌, ◌*◌, ◌<◌, ◌≤◌, true, cond, eqb, ℤ, pos, ◌+ℤ◌, ◌-ℤ◌, ◌≤ℤ◌, sym, refl, ap, ◌∙◌, subst, ⊎_elim, arith}
use lib.IntN.{+ℤ_idl}
use Rattle.std.proofs.lemmas.Int.{ints}
use Rattle.std.proofs.lemmas.Bool.{eq-eqb, ne_eqb, cases_eq}
use Rattle.bank.specs.Kinds.{Assignment}
use Rattle.semitones.specs.declared.cells.Cell.{Cell}
use Rattle.semitones.specs.Cells.{Record, node, cell_of, root_of_lem, by_of, tied, solves, Sound}
use Rattle.semitones.specs.Joins.{Moved}
use Rattle.semitones.specs.laws.Solves.{solves_from, solves_admits, solves_at}
use Rattle.semitones.proofs.Moving.{moved_in, moved_out}

one_yes : (x ρ : ℕ) → x ≡ ρ → ◌≡◌ {A = ℕ} (cond (eqb x ρ) 1 0) 1
one_yes x ρ e = ap (λ t. cond {A = ℕ} t 1 0) (eq-eqb x ρ e)

one_no : (x ρ : ℕ) → (x ≡ ρ → ⊥) → ◌≡◌ {A = ℕ} (cond (eqb x ρ) 1 0) 0
one_no x ρ n = ap (λ t. cond {A = ℕ} t 1 0) (ne_eqb x ρ n)

-- sums for `near`
near_in : (x y x' y' g : ℤ) (m n : ℕ) → x' ≡ x +ℤ g → y' ≡ y +ℤ g → m ≤ n → (x +ℤ pos 1000) ≤ℤ (y +ℤ pos (1000 * m)) → (x' +ℤ pos 1000) ≤ℤ (y' +ℤ pos (1000 * n))
near_in x y x' y' g m n e f h k = omega (arith, ints, e, f)

near_out : (x y x' y' : ℤ) (m n : ℕ) → x' ≡ x → y' ≡ y → m ≤ n → (x +ℤ pos 1000) ≤ℤ (y +ℤ pos (1000 * m)) → (x' +ℤ pos 1000) ≤ℤ (y' +ℤ pos (1000 * n))
near_out x y x' y' m n e f h k = omega (arith, ints, e, f)

near_over : (x y x' p q g d : ℤ) (m k n : ℕ) → x' ≡ x +ℤ g → g ≡ (p -ℤ q) -ℤ d → n ≡ m + k → pos 0 ≤ℤ (d +ℤ pos 1000)
    → (x +ℤ pos 1000) ≤ℤ (q +ℤ pos (1000 * m)) → (p +ℤ pos 1000) ≤ℤ (y +ℤ pos (1000 * k)) → (x' +ℤ pos 1000) ≤ℤ (y +ℤ pos (1000 * n))
near_over x y x' p q g d m k n e f h j u v = omega (arith, ints, e, f)

near_under : (x y y' p q g d : ℤ) (m k n : ℕ) → y' ≡ y +ℤ g → g ≡ (p -ℤ q) -ℤ d → n ≡ m + k → d ≤ℤ pos 1000
    → (q +ℤ pos 1000) ≤ℤ (y +ℤ pos (1000 * m)) → (x +ℤ pos 1000) ≤ℤ (p +ℤ pos (1000 * k)) → (x +ℤ pos 1000) ≤ℤ (y' +ℤ pos (1000 * n))
near_under x y y' p q g d m k n e f h j u v = omega (arith, ints, e, f)

-- sums for the solutions
over : (x y u v bp bq d g : ℤ) → x ≡ u +ℤ bp → y ≡ v +ℤ bq → g ≡ (bp -ℤ bq) -ℤ d → x ≡ y +ℤ d → v ≡ u +ℤ g
over x y u v bp bq d g e f h k = omega (arith, ints, e, f, h, k)

under : (x y u v bp bq d g : ℤ) → x ≡ u +ℤ bp → y ≡ v +ℤ bq → g ≡ (bp -ℤ bq) -ℤ d → v ≡ u +ℤ g → x ≡ y +ℤ d
under x y u v bp bq d g e f h k = omega (arith, ints, e, f, h, k)

along : (z u v b b' g : ℤ) → z ≡ v +ℤ b → v ≡ u +ℤ g → b' ≡ b +ℤ g → z ≡ u +ℤ b'
along z u v b b' g e f h = omega (arith, ints, e, f, h)

back : (z u v b b' g : ℤ) → z ≡ u +ℤ b' → v ≡ u +ℤ g → b' ≡ b +ℤ g → z ≡ v +ℤ b
back z u v b b' g e f h = omega (arith, ints, e, f, h)

-- node p lies d above node q, whose class goes under p's
module _ (r s : Record) (p q from to : ℕ) (d g : ℤ) (S : Sound r) (lp : p < 257) (lq : q < 257)
    (rp : root_of_lem r p ≡ to) (rq : root_of_lem r q ≡ from) (lt : to < from)
    (eg : g ≡ (by_of r p -ℤ by_of r q) -ℤ d) (up : d ≤ℤ pos 1000) (down : pos 0 ≤ℤ (d +ℤ pos 1000)) (M : Moved from to g r s) where
  in_root : (a : ℕ) → root_of_lem r a ≡ from → root_of_lem s a ≡ to
  in_root a e = ap (λ (c : Cell). c.root) (M.cells a ∙ moved_in from to g (cell_of r a) e)

  in_by : (a : ℕ) → root_of_lem r a ≡ from → by_of s a ≡ by_of r a +ℤ g
  in_by a e = ap (λ (c : Cell). c.by) (M.cells a ∙ moved_in from to g (cell_of r a) e)

  out_root : (a : ℕ) → (root_of_lem r a ≡ from → ⊥) → root_of_lem s a ≡ root_of_lem r a
  out_root a n = ap (λ (c : Cell). c.root) (M.cells a ∙ moved_out from to g (cell_of r a) n)

  out_by : (a : ℕ) → (root_of_lem r a ≡ from → ⊥) → by_of s a ≡ by_of r a
  out_by a n = ap (λ (c : Cell). c.by) (M.cells a ∙ moved_out from to g (cell_of r a) n)

  to_top : root_of_lem r to ≡ to
  to_top = subst (λ (x : ℕ). root_of_lem r x ≡ x) rp (S.top p)

  to_flat : by_of r to ≡ pos 0
  to_flat = subst (λ (x : ℕ). by_of r x ≡ pos 0) rp (S.flat p)

  from_top : root_of_lem r from ≡ from
  from_top = subst (λ (x : ℕ). root_of_lem r x ≡ x) rq (S.top q)

  from_flat : by_of r from ≡ pos 0
  from_flat = subst (λ (x : ℕ). by_of r x ≡ pos 0) rq (S.flat q)

  in_from : from < 257
  in_from = omega (arith, S.low q, rq)

  to_out : root_of_lem r to ≡ from → ⊥
  to_out e = omega (arith, to_top)

  -- the root of a node in s is a root of s
  s_top : (a : ℕ) → (root_of_lem s (root_of_lem s a) ≡ root_of_lem s a) × (by_of s (root_of_lem s a) ≡ pos 0)
  s_top a = ⊎_elim
      (λ (e : root_of_lem r a ≡ from).
      let t : root_of_lem s a ≡ to = in_root a e in
      (ap (root_of_lem s) t ∙ out_root to to_out ∙ to_top ∙ sym t, ap (by_of s) t ∙ out_by to to_out ∙ to_flat))
      (λ n.
      let t : root_of_lem s a ≡ root_of_lem r a = out_root a n in
      let m : root_of_lem r (root_of_lem r a) ≡ from → ⊥ = λ f. n (sym (S.top a) ∙ f) in
      (ap (root_of_lem s) t ∙ out_root (root_of_lem r a) m ∙ S.top a ∙ sym t, ap (by_of s) t ∙ out_by (root_of_lem r a) m ∙ S.flat a))
      (cases_eq (root_of_lem r a) from)

  s_low : (a : ℕ) → root_of_lem s a ≤ a
  s_low a = ⊎_elim
      (λ (e : root_of_lem r a ≡ from). omega (arith, in_root a e, S.low a))
      (λ n. omega (arith, out_root a n, S.low a))
      (cases_eq (root_of_lem r a) from)

  tied_to : (n : ℕ) → tied s to n ≡ tied r from n + tied r to n
  unfolding tied
  tied_to zero = refl
  tied_to (suc n) =
      let ih = tied_to n in
      ⊎_elim
      (λ (e : root_of_lem r n ≡ from).
      let u = one_yes (root_of_lem s n) to (in_root n e) in
      let v = one_yes (root_of_lem r n) from e in
      let w = one_no (root_of_lem r n) to (λ f. omega arith) in
      omega arith)
      (λ ne.
      let u : cond {A = ℕ} (eqb (root_of_lem s n) to) 1 0 ≡ cond (eqb (root_of_lem r n) to) 1 0 = ap (λ (x : ℕ). cond {A = ℕ} (eqb x to) 1 0) (out_root n ne) in
      let v = one_no (root_of_lem r n) from ne in
      omega arith)
      (cases_eq (root_of_lem r n) from)

  tied_other : (ρ : ℕ) → (ρ ≡ from → ⊥) → (n : ℕ) → tied r ρ n ≤ tied s ρ n
  unfolding tied
  tied_other ρ ne zero = omega arith
  tied_other ρ ne (suc n) =
      let ih = tied_other ρ ne n in
      ⊎_elim
      (λ (e : root_of_lem r n ≡ from). let w = one_no (root_of_lem r n) ρ (λ f. ne (sym f ∙ e)) in omega arith)
      (λ out. let u : cond {A = ℕ} (eqb (root_of_lem s n) ρ) 1 0 ≡ cond (eqb (root_of_lem r n) ρ) 1 0 = ap (λ (x : ℕ). cond {A = ℕ} (eqb x ρ) 1 0) (out_root n out) in omega arith)
      (cases_eq (root_of_lem r n) from)

  size : Record → ℕ → ℕ
  size x a = tied x (root_of_lem x a) 257

  s_near : (a b : ℕ) → a < 257 → b < 257 → root_of_lem s a ≡ root_of_lem s b → (by_of s a +ℤ pos 1000) ≤ℤ (by_of s b +ℤ pos (1000 * size s a))
  unfolding size
  s_near a b h k e = ⊎_elim
      (λ (i : root_of_lem r a ≡ from).
      let t : size s a ≡ tied s to 257 = ap (λ (x : ℕ). tied s x 257) (in_root a i) in
      let t' : size r a ≡ tied r from 257 = ap (λ (x : ℕ). tied r x 257) i in
      ⊎_elim
      (λ (j : root_of_lem r b ≡ from).
      near_in (by_of r a) (by_of r b) (by_of s a) (by_of s b) g (size r a) (size s a) (in_by a i) (in_by b j)
      (omega (arith, t, t', tied_to 257)) (S.near a b h k (i ∙ sym j)))
      (λ n.
      let rb : root_of_lem r b ≡ to = sym (out_root b n) ∙ sym e ∙ in_root a i in
      let t'' : size r p ≡ tied r to 257 = ap (λ (x : ℕ). tied r x 257) rp in
      subst (λ (y : ℤ). (by_of s a +ℤ pos 1000) ≤ℤ (y +ℤ pos (1000 * size s a))) (sym (out_by b n))
      (near_over (by_of r a) (by_of r b) (by_of s a) (by_of r p) (by_of r q) g d (size r a) (size r p) (size s a) (in_by a i) eg
      (omega (arith, t, t', t'', tied_to 257)) down (S.near a q h lq (i ∙ sym rq)) (S.near p b lp k (rp ∙ sym rb))))
      (cases_eq (root_of_lem r b) from))
      (λ n. ⊎_elim
      (λ (j : root_of_lem r b ≡ from).
      let ra : root_of_lem r a ≡ to = sym (out_root a n) ∙ e ∙ in_root b j in
      let t : size s a ≡ tied s to 257 = ap (λ (x : ℕ). tied s x 257) (e ∙ in_root b j) in
      let t' : size r q ≡ tied r from 257 = ap (λ (x : ℕ). tied r x 257) rq in
      let t'' : size r a ≡ tied r to 257 = ap (λ (x : ℕ). tied r x 257) ra in
      subst (λ (x : ℤ). (x +ℤ pos 1000) ≤ℤ (by_of s b +ℤ pos (1000 * size s a))) (sym (out_by a n))
      (near_under (by_of r a) (by_of r b) (by_of s b) (by_of r p) (by_of r q) g d (size r q) (size r a) (size s a) (in_by b j) eg
      (omega (arith, t, t', t'', tied_to 257)) up (S.near q b lq k (rq ∙ sym j)) (S.near a p h lp (ra ∙ sym rp))))
      (λ m.
      let t : size s a ≡ tied s (root_of_lem r a) 257 = ap (λ (x : ℕ). tied s x 257) (out_root a n) in
      near_out (by_of r a) (by_of r b) (by_of s a) (by_of s b) (size r a) (size s a) (out_by a n) (out_by b m)
      (omega (arith, t, tied_other (root_of_lem r a) n 257)) (S.near a b h k (sym (out_root a n) ∙ e ∙ out_root b m)))
      (cases_eq (root_of_lem r b) from))
      (cases_eq (root_of_lem r a) from)

  pub s_sound : Sound s
  unfolding size
  s_sound = record { few = M.few; low = s_low; top = λ a. (s_top a).0; flat = λ a. (s_top a).1; near = s_near }

  module _ (σ : Assignment) where
    pub forth : solves r σ ≡ true → node σ p ≡ node σ q +ℤ d → solves s σ ≡ true
    forth ok edge =
        let at_r = solves_at r σ ok in
        let xp : node σ p ≡ node σ to +ℤ by_of r p = subst (λ (x : ℕ). node σ p ≡ node σ x +ℤ by_of r p) rp (at_r p lp) in
        let xq : node σ q ≡ node σ from +ℤ by_of r q = subst (λ (x : ℕ). node σ q ≡ node σ x +ℤ by_of r q) rq (at_r q lq) in
        let shifted : node σ from ≡ node σ to +ℤ g = over (node σ p) (node σ q) (node σ to) (node σ from) (by_of r p) (by_of r q) d g xp xq eg edge in
        solves_from s σ (solves_admits r σ ok) (λ a h. ⊎_elim
        (λ (i : root_of_lem r a ≡ from).
        let xa : node σ a ≡ node σ from +ℤ by_of r a = subst (λ (x : ℕ). node σ a ≡ node σ x +ℤ by_of r a) i (at_r a h) in
        subst (λ (x : ℕ). node σ a ≡ node σ x +ℤ by_of s a) (sym (in_root a i))
        (along (node σ a) (node σ to) (node σ from) (by_of r a) (by_of s a) g xa shifted (in_by a i)))
        (λ n. at_r a h ∙ ap (λ (x : ℕ). node σ x +ℤ by_of r a) (sym (out_root a n)) ∙ ap (λ (x : ℤ). node σ (root_of_lem s a) +ℤ x) (sym (out_by a n)))
        (cases_eq (root_of_lem r a) from))

    pub back_again : solves s σ ≡ true → (solves r σ ≡ true) × (node σ p ≡ node σ q +ℤ d)
    back_again ok =
        let at-s = solves_at s σ ok in
        let sf : node σ from ≡ node σ to +ℤ by_of s from = subst (λ (x : ℕ). node σ from ≡ node σ x +ℤ by_of s from) (in_root from from_top) (at-s from in_from) in
        let zero_by : by_of s from ≡ pos 0 +ℤ g = in_by from from_top ∙ ap (λ (x : ℤ). x +ℤ g) from_flat in
        let shifted : node σ from ≡ node σ to +ℤ g = sf ∙ ap (λ (x : ℤ). node σ to +ℤ x) (zero_by ∙ +ℤ_idl g) in
        let at_r : (a : ℕ) → a < 257 → node σ a ≡ node σ (root_of_lem r a) +ℤ by_of r a = λ a h. ⊎_elim
        (λ (i : root_of_lem r a ≡ from).
        let xa : node σ a ≡ node σ to +ℤ by_of s a = subst (λ (x : ℕ). node σ a ≡ node σ x +ℤ by_of s a) (in_root a i) (at-s a h) in
        subst (λ (x : ℕ). node σ a ≡ node σ x +ℤ by_of r a) (sym i)
        (back (node σ a) (node σ to) (node σ from) (by_of r a) (by_of s a) g xa shifted (in_by a i)))
        (λ n. at-s a h ∙ ap (λ (x : ℕ). node σ x +ℤ by_of s a) (out_root a n) ∙ ap (λ (x : ℤ). node σ (root_of_lem r a) +ℤ x) (out_by a n))
        (cases_eq (root_of_lem r a) from) in
        let xp : node σ p ≡ node σ to +ℤ by_of r p = subst (λ (x : ℕ). node σ p ≡ node σ x +ℤ by_of r p) rp (at_r p lp) in
        let xq : node σ q ≡ node σ from +ℤ by_of r q = subst (λ (x : ℕ). node σ q ≡ node σ x +ℤ by_of r q) rq (at_r q lq) in
        (solves_from r σ (solves_admits s σ ok) at_r, under (node σ p) (node σ q) (node σ to) (node σ from) (by_of r p) (by_of r q) d g xp xq eg shifted)

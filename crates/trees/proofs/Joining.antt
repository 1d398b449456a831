-- One class put under another. Assumes nothing.
use Rattle.std.proofs.Common.{◌≡◌, ℕ, zero, suc, ◌+◌, ◌<◌, ◌≤◌, true, false, cond, eqb, ◌⊎◌, List, [], ◌∷◌, ◌++◌, sym, refl, ap, ◌∙◌, subst, inl, inr, ⊎_elim, arith}
use Rattle.std.proofs.lemmas.List.{length-append}
use Rattle.std.proofs.lemmas.Bool.{eq-eqb, ne_eqb, cases_eq, cond-true, cond-false, cases_lt}
use Rattle.bank.specs.Kinds.{Value, Assignment}
use Rattle.trees.specs.declared.cells.Form.{Form}
use Rattle.trees.specs.declared.cells.Equation.{Equation}
use Rattle.trees.specs.Stores.{Store, root_of_lem, form_at_lem, form_of, Fits, Solves, Holds, Left, Formed, Named, Shaped, classes, classes_below}
use Rattle.trees.specs.Joins.{Moved, Joined, sides, clash, chosen, flat}
use Rattle.trees.specs.Values.{ready, deep}
use Rattle.trees.specs.laws.Depths.{ready_more, flat_ready}
use Rattle.trees.proofs.Meeting.{Meeting, meeting, flip, clashing}

pub holds_both : (σ : Assignment) (ds es : List Equation) → Holds σ ds → Holds σ es → Holds σ (ds ++ es)
holds_both σ [] es p q = q
holds_both σ (d ∷ ds) es p q = (p.0, holds_both σ ds es p.1 q)

pub holds_front : (σ : Assignment) (ds es : List Equation) → Holds σ (ds ++ es) → Holds σ ds
holds_front σ [] es p = tt
holds_front σ (d ∷ ds) es p = (p.0, holds_front σ ds es p.1)

pub holds_back : (σ : Assignment) (ds es : List Equation) → Holds σ (ds ++ es) → Holds σ es
holds_back σ [] es p = p
holds_back σ (d ∷ ds) es p = holds_back σ ds es p.1

pub named_both : (n : ℕ) (ds es : List Equation) → Named n ds → Named n es → Named n (ds ++ es)
named_both n [] es p q = q
named_both n (d ∷ ds) es p q = (p.0, named_both n ds es p.1 q)

module _ (r s : Store) (S : Shaped r) (lo hi : ℕ) (h : Form) (M : Moved hi lo h r s) (lt : lo < hi) (lh : hi < 256) (top_lo : root_of_lem r lo ≡ lo) (top_hi : root_of_lem r hi ≡ hi) where
  root_in : (a : ℕ) → a < 256 → root_of_lem r a ≡ hi → root_of_lem s a ≡ lo
  root_in a l e = M.roots a ∙ cond-true (eqb (root_of_lem r a) hi) lo (root_of_lem r a) (eq-eqb (root_of_lem r a) hi e)

  root_out : (a : ℕ) → a < 256 → (root_of_lem r a ≡ hi → ⊥) → root_of_lem s a ≡ root_of_lem r a
  root_out a l n = M.roots a ∙ cond-false (eqb (root_of_lem r a) hi) lo (root_of_lem r a) (ne_eqb (root_of_lem r a) hi n)

  root_lo : root_of_lem s lo ≡ lo
  root_lo = root_out lo (omega arith) (λ e. omega (arith, top_lo)) ∙ top_lo

  form_in : (a : ℕ) → root_of_lem s a ≡ lo → form_of s a ≡ h
  form_in a e = ap (form_at_lem s) e ∙ M.here

  form_out : (a : ℕ) → a < 256 → (root_of_lem r a ≡ hi → ⊥) → (root_of_lem r a ≡ lo → ⊥) → form_of s a ≡ form_of r a
  form_out a l n m = ap (form_at_lem s) (root_out a l n) ∙ M.there (root_of_lem r a) m

  -- the root of a variable, before: hi, lo or another
  where_is : (P : Type 0) (a : ℕ) → (root_of_lem r a ≡ hi → P) → (root_of_lem r a ≡ lo → P) → ((root_of_lem r a ≡ hi → ⊥) → (root_of_lem r a ≡ lo → ⊥) → P) → P
  where_is P a p q o = ⊎_elim p (λ n. ⊎_elim q (λ m. o n m) (cases_eq (root_of_lem r a) lo)) (cases_eq (root_of_lem r a) hi)

  root_two : (a : ℕ) → a < 256 → root_of_lem r a ≡ lo → root_of_lem s a ≡ lo
  root_two a l e = root_out a l (λ q. omega arith) ∙ e

  formed_here : (a : ℕ) → a < 256 → Formed s.used (form_of r a)
  formed_here a l = subst (λ (n : ℕ). Formed n (form_of r a)) (sym M.used) (S.named a l)

  pub shaped : Formed s.used h → Shaped s
  shaped F = record {
    used = omega (arith, M.used, S.used);
    low = λ a l. ⊎_elim (λ e. omega (arith, S.low a l, root_in a l e)) (λ n. omega (arith, S.low a l, root_out a l n)) (cases_eq (root_of_lem r a) hi);
    top = λ a l. ⊎_elim
        (λ e. ap (root_of_lem s) (root_in a l e) ∙ root_lo ∙ sym (root_in a l e))
        (λ n. ap (root_of_lem s) (root_out a l n) ∙ root_out (root_of_lem r a) (omega (arith, S.low a l)) (λ e. n (sym (S.top a l) ∙ e)) ∙ S.top a l ∙ sym (root_out a l n))
        (cases_eq (root_of_lem r a) hi);
    named = λ a l. where_is (Formed s.used (form_of s a)) a
        (λ e. subst (Formed s.used) (sym (form_in a (root_in a l e))) F)
        (λ e. subst (Formed s.used) (sym (form_in a (root_two a l e))) F)
        (λ n m. subst (Formed s.used) (sym (form_out a l n m)) (formed_here a l));
  }

  -- where nothing lies below the class that was made, there are no more levels than before
  pub flat_deep : flat h ≡ true → (n x : ℕ) → deep r n x ≡ true → deep s n x ≡ true
  unfolding deep
  flat_deep k zero x e = e
  flat_deep k (suc n) x e = where_is (ready (deep s n) (form_of s x) ≡ true) x
      (λ q. ap (ready (deep s n)) (form_in x (M.roots x ∙ cond-true (eqb (root_of_lem r x) hi) lo (root_of_lem r x) (eq-eqb (root_of_lem r x) hi q))) ∙ flat_ready (deep s n) h k)
      (λ q. ap (ready (deep s n)) (form_in x (other x (λ p. omega arith) ∙ q)) ∙ flat_ready (deep s n) h k)
      (λ p q. ap (ready (deep s n)) (ap (form_at_lem s) (other x p) ∙ M.there (root_of_lem r x) q) ∙ ready_more (deep r n) (deep s n) (form_of r x) (flat_deep k n) e)
    where
      other : (a : ℕ) → (root_of_lem r a ≡ hi → ⊥) → root_of_lem s a ≡ root_of_lem r a
      other a p = M.roots a ∙ cond-false (eqb (root_of_lem r a) hi) lo (root_of_lem r a) (ne_eqb (root_of_lem r a) hi p)

  module _ (ds : List Equation) (m : Meeting (form_of r lo) (form_of r hi) h ds) (σ : Assignment) where
    forth : Solves r σ → σ lo ≡ σ hi → Solves s σ × Holds σ ds
    forth o q =
        let f : Fits σ (form_of r lo) (σ lo) = o.form lo (omega arith) in
        let g : Fits σ (form_of r hi) (σ lo) = subst (λ (v : Value). Fits σ (form_of r hi) v) (sym q) (o.form hi lh) in
        let both = m.to σ (σ lo) f g in
        let same : (a : ℕ) → a < 256 → σ a ≡ σ (root_of_lem s a) = λ a l. ⊎_elim
        (λ e. o.same a l ∙ ap σ e ∙ sym q ∙ ap σ (sym (root_in a l e)))
        (λ n. o.same a l ∙ ap σ (sym (root_out a l n))) (cases_eq (root_of_lem r a) hi) in
        let as_h : (a : ℕ) → a < 256 → root_of_lem s a ≡ lo → Fits σ (form_of s a) (σ a) = λ a l e.
        subst (λ (k : Form). Fits σ k (σ a)) (sym (form_in a e)) (subst (λ (v : Value). Fits σ h v) (sym (same a l ∙ ap σ e)) both.0) in (
          record {
            same = same;
            form = λ a l. where_is (Fits σ (form_of s a) (σ a)) a
                (λ e. as_h a l (root_in a l e)) (λ e. as_h a l (root_two a l e))
                (λ n w. subst (λ (k : Form). Fits σ k (σ a)) (sym (form_out a l n w)) (o.form a l));
          },
          both.1,
        )

    back : Solves s σ → Holds σ ds → Solves r σ
    back o d =
        let q : σ hi ≡ σ lo = o.same hi lh ∙ ap σ (root_in hi lh top_hi) in
        let is_lo : (a : ℕ) → a < 256 → root_of_lem s a ≡ lo → σ a ≡ σ lo = λ a l e. o.same a l ∙ ap σ e in
        let has : Fits σ h (σ lo) = subst (λ (k : Form). Fits σ k (σ lo)) (form_in lo root_lo) (o.form lo (omega arith)) in
        let form_hi : (a : ℕ) → root_of_lem r a ≡ hi → form_of r hi ≡ form_of r a = λ a e. ap (form_at_lem r) (top_hi ∙ sym e) in
        let form_lo : (a : ℕ) → root_of_lem r a ≡ lo → form_of r lo ≡ form_of r a = λ a e. ap (form_at_lem r) (top_lo ∙ sym e) in
        record {
          same = λ a l. ⊎_elim
              (λ e. is_lo a l (root_in a l e) ∙ sym q ∙ ap σ (sym e))
              (λ n. o.same a l ∙ ap σ (root_out a l n)) (cases_eq (root_of_lem r a) hi);
          form = λ a l. where_is (Fits σ (form_of r a) (σ a)) a
              (λ e. subst (λ (k : Form). Fits σ k (σ a)) (form_hi a e) (subst (λ (v : Value). Fits σ (form_of r hi) v) (sym (is_lo a l (root_in a l e))) (m.two σ (σ lo) has d)))
              (λ e. subst (λ (k : Form). Fits σ k (σ a)) (form_lo a e) (subst (λ (v : Value). Fits σ (form_of r lo) v) (sym (is_lo a l (root_two a l e))) (m.one σ (σ lo) has d)))
              (λ n w. subst (λ (k : Form). Fits σ k (σ a)) (form_out a l n w) (o.form a l));
        }

  -- one class fewer
  one : Store → ℕ → ℕ
  one x a = cond (eqb (root_of_lem x a) a) 1 0

  one_yes : (x : Store) (a : ℕ) → root_of_lem x a ≡ a → one x a ≡ 1
  unfolding one
  one_yes x a e = cond-true (eqb (root_of_lem x a) a) 1 0 (eq-eqb (root_of_lem x a) a e)

  one_no : (x : Store) (a : ℕ) → (root_of_lem x a ≡ a → ⊥) → one x a ≡ 0
  unfolding one
  one_no x a e = cond-false (eqb (root_of_lem x a) a) 1 0 (ne_eqb (root_of_lem x a) a e)

  one_same : (a : ℕ) → a < 256 → (a ≡ hi → ⊥) → one s a ≡ one r a
  one_same a l n = ⊎_elim
      (λ (e : root_of_lem r a ≡ hi). one_no s a (λ q. omega (arith, root_in a l e, top_lo, ap (root_of_lem r) (sym (root_in a l e) ∙ q))) ∙ sym (one_no r a (λ q. omega arith)))
      (λ ne. ⊎_elim (λ e. one_yes s a (root_out a l ne ∙ e) ∙ sym (one_yes r a e)) (λ w. one_no s a (λ q. w (sym (root_out a l ne) ∙ q)) ∙ sym (one_no r a w)) (cases_eq (root_of_lem r a) a))
      (cases_eq (root_of_lem r a) hi)

  under : (n : ℕ) → n ≤ hi → classes_below s n ≡ classes_below r n
  unfolding one
  under zero l = refl
  under (suc n) l =
      let ih = under n (omega arith) in
      let h : one s n ≡ one r n = one_same n (omega arith) (λ q. omega arith) in
      omega arith

  over : (n : ℕ) → hi < n → n ≤ 256 → classes_below s n + 1 ≡ classes_below r n
  unfolding one
  over zero l k = let z : ⊥ = omega arith in absurd z
  over (suc n) l k = ⊎_elim
      (λ (q : n ≡ hi).
      let ih = under n (omega arith) in
      let x : one s n ≡ 0 = one_no s n (λ e. omega (arith, root_in n (omega arith) (ap (root_of_lem r) q ∙ top_hi ∙ refl))) in
      let y : one r n ≡ 1 = one_yes r n (ap (root_of_lem r) q ∙ top_hi ∙ sym q) in
      omega arith)
      (λ ne.
      let ih = over n (omega arith) (omega arith) in
      let h : one s n ≡ one r n = one_same n (omega arith) ne in
      omega arith)
      (cases_eq n hi)

  pub fewer : classes s + 1 ≡ classes r
  unfolding classes
  fewer = over 256 lh (omega arith)

  pub joined : (ds es : List Equation) (e : Equation) → Meeting (form_of r lo) (form_of r hi) h ds → e.x < 256 → e.y < 256
      → ((root_of_lem r e.x ≡ lo) × (root_of_lem r e.y ≡ hi)) ⊎ ((root_of_lem r e.x ≡ hi) × (root_of_lem r e.y ≡ lo)) → Named r.used es → Joined r s e es (ds ++ es)
  joined ds es e m lx ly ends nes =
      let nm = m.named s.used (formed_here lo (omega arith)) (formed_here hi lh) in
      let link : (σ : Assignment) → Solves r σ → σ e.x ≡ σ e.y → σ lo ≡ σ hi = λ σ o q. ⊎_elim
      (λ p. sym (o.same e.x lx ∙ ap σ p.0) ∙ q ∙ o.same e.y ly ∙ ap σ p.1)
      (λ p. sym (o.same e.y ly ∙ ap σ p.1) ∙ sym q ∙ o.same e.x lx ∙ ap σ p.0) ends in
      let both : (root_of_lem s e.x ≡ lo) × (root_of_lem s e.y ≡ lo) = ⊎_elim
      (λ p. (root_two e.x lx p.0, root_in e.y ly p.1))
      (λ p. (root_in e.x lx p.0, root_two e.y ly p.1)) ends in
      let len = length-append ds es in
      let few = fewer in
      record {
        shaped = shaped nm.0;
        used = M.used;
        named = named_both s.used ds es nm.1 (subst (λ (n : ℕ). Named n es) (sym M.used) nes);
        left = record {
          to = λ σ o. let f = forth ds m σ o.0 (link σ o.0 o.1.0) in (f.0, holds_both σ ds es f.1 o.1.1);
          from = λ σ o. (
            back ds m σ o.0 (holds_front σ ds es o.1),
            (
              o.0.same e.x lx ∙ ap σ (both.0 ∙ sym both.1) ∙ sym (o.0.same e.y ly),
              holds_back σ ds es o.1,
            ),
          );
        };
        fewer = omega (arith, m.short);
        room = omega (arith, m.short);
      }

-- an equation between the classes a and b, whose forms f and g are joined to h
module _ (r s : Store) (S : Shaped r) (e : Equation) (es ds : List Equation) (lx : e.x < 256) (ly : e.y < 256) (nes : Named r.used es) (a b : ℕ) (f g h : Form)
    (is_a : a ≡ root_of_lem r e.x) (is_b : b ≡ root_of_lem r e.y) (is_f : f ≡ form_at_lem r a) (is_g : g ≡ form_at_lem r b) (is_h : h ≡ chosen f g)
    (apart : clash f g ≡ false) (now_ds : ds ≡ sides f g ++ es) where
  top_a : root_of_lem r a ≡ a
  top_a = ap (root_of_lem r) is_a ∙ S.top e.x lx ∙ sym is_a

  top_b : root_of_lem r b ≡ b
  top_b = ap (root_of_lem r) is_b ∙ S.top e.y ly ∙ sym is_b

  met : Meeting (form_of r a) (form_of r b) h (sides f g)
  met = subst (λ (k : Form). Meeting k (form_of r b) h (sides f g)) (is_f ∙ ap (form_at_lem r) (sym top_a))
      (subst (λ (k : Form). Meeting f k h (sides f g)) (is_g ∙ ap (form_at_lem r) (sym top_b))
      (subst (λ (k : Form). Meeting f g k (sides f g)) (sym is_h) (meeting f g apart)))

  joined_up : a < b → Moved b a h r s → Joined r s e es ds
  joined_up lt M = subst (λ (xs : List Equation). Joined r s e es xs) (sym now_ds)
      (joined r s S a b h M lt (omega (arith, S.low e.y ly)) top_a top_b (sides f g) es e met lx ly (inl (sym is_a, sym is_b)) nes)

  joined_down : b < a → Moved a b h r s → Joined r s e es ds
  joined_down lt M = subst (λ (xs : List Equation). Joined r s e es xs) (sym now_ds)
      (joined r s S b a h M lt (omega (arith, S.low e.x lx)) top_b top_a (sides f g) es e (flip (form_of r a) (form_of r b) h (sides f g) met) lx ly (inr (sym is_a, sym is_b)) nes)

  levels_up : flat h ≡ true → a < b → Moved b a h r s → (n x : ℕ) → deep r n x ≡ true → deep s n x ≡ true
  levels_up k lt M = flat_deep r s S a b h M lt (omega (arith, S.low e.y ly)) top_a top_b k

  levels_down : flat h ≡ true → b < a → Moved a b h r s → (n x : ℕ) → deep r n x ≡ true → deep s n x ≡ true
  levels_down k lt M = flat_deep r s S b a h M lt (omega (arith, S.low e.x lx)) top_b top_a k

  -- the higher class is put under the lower
  module _ (ne : a ≡ b → ⊥) (up : a < b → Moved b a h r s) (down : b < a → Moved a b h r s) where
    pub united : Joined r s e es ds
    united = ⊎_elim (λ (lt : a < b). joined_up lt (up lt)) (λ (ge : b ≤ a). let lt : b < a = omega (arith, ne) in joined_down lt (down lt)) (cases_lt a b)

    pub united_deep : flat h ≡ true → (n x : ℕ) → deep r n x ≡ true → deep s n x ≡ true
    united_deep k = ⊎_elim (λ (lt : a < b). levels_up k lt (up lt)) (λ (ge : b ≤ a). let lt : b < a = omega (arith, ne) in levels_down k lt (down lt)) (cases_lt a b)

-- an equation within one class
pub joined_already : (r : Store) (e : Equation) (es : List Equation) → Shaped r → e.x < 256 → e.y < 256 → Named r.used es → root_of_lem r e.x ≡ root_of_lem r e.y → Joined r r e es es
joined_already r e es S lx ly nes q = record {
  shaped = S;
  used = refl;
  named = nes;
  left = record { to = λ σ o. (o.0, o.1.1); from = λ σ o. (o.0, (o.0.same e.x lx ∙ ap σ q ∙ sym (o.0.same e.y ly), o.1)) };
  fewer = omega arith;
  room = omega arith;
}

-- two classes whose forms clash
pub joined_never : (r : Store) (e : Equation) (es : List Equation) (f g : Form) → e.x < 256 → e.y < 256 → form_of r e.x ≡ f → form_of r e.y ≡ g → clash f g ≡ true → (σ : Assignment) → Left r (e ∷ es) σ → ⊥
joined_never r e es f g lx ly is_f is_g k σ o = clashing f g k σ (σ e.x) (subst (λ (h : Form). Fits σ h (σ e.x)) is_f (o.0.form e.x lx))
    (subst (λ (v : Value). Fits σ g v) (sym o.1.0) (subst (λ (h : Form). Fits σ h (σ e.y)) is_g (o.0.form e.y ly)))

-- A constraint put to a record. Assumes nothing.
use Rattle.std.proofs.Common.{◌≡◌, ℕ, zero, suc, ◌<◌, ◌≤◌, Bool, true, false, cond, ◌&&◌, eqb, List, [], ◌∷◌, ◌++◌, Some, None, sym, refl, ap, ◌∙◌, subst, ⊎_elim, arith}
use Rattle.std.proofs.lemmas.List.{append-nil}
use Rattle.std.proofs.lemmas.Bool.{cases_eq, cases_Bool, and_from, and_parts}
use Rattle.bank.specs.Kinds.{Value, Assignment}
use Rattle.stack.specs.Items.{top, below}
use Rattle.trees.specs.declared.cells.Form.{Form}
use Rattle.trees.specs.declared.cells.Equation.{Equation}
use Rattle.trees.specs.declared.tasks.Bind.{Bind}
use Rattle.trees.specs.declared.tasks.Task.{Task}
use Rattle.trees.specs.declared.tasks.Task.TheVariants.{Equal, Has}
use Rattle.trees.specs.Stores.{Store, root_of_lem, form_at_lem, form_of, Fits, solves, Solves, Left, Same, Formed, Named, Shaped, Reached, classes, classes_below}
use Rattle.trees.specs.laws.Shapes.{formed_more, solves_alike}
use Rattle.trees.specs.laws.Solves.{equal_true, equal_from, fits_true, fits_from, solves_true, solves_from, same_test, never_true}
use Rattle.trees.specs.Joins.{sides, clash, chosen, Reformed, Solved}
use Rattle.trees.specs.Marks.{Grounds}
use Rattle.trees.specs.Tasks.{asks, Asks, Proper, With, Started, Narrowed}
use Rattle.trees.proofs.Meeting.{Meeting, meeting}

pub same_trans : (P Q R : Assignment → Type 0) → Same P Q → Same Q R → Same P R
same_trans P Q R f g = record { to = λ σ p. g.to σ (f.to σ p); from = λ σ p. f.from σ (g.from σ p) }

pub popped : (os bs : List Equation) (e : Equation) → Some e ≡ top os → bs ≡ below os → os ≡ e ∷ bs
popped [] bs e p q = let z : ◌≡◌ {A = ℕ} 0 1 = cc in absurd (omega arith)
popped (o ∷ os) bs e p q = let h : e ≡ o = cc in λ i. sym h i ∷ sym q i

-- nothing is pending any more
pub emptied : (P : Assignment → Type 0) (r : Store) (es : List Equation) → None ≡ top es → Same P (Left r es) → Same P (Solves r)
emptied P r [] e same = record { to = λ σ p. (same.to σ p).0; from = λ σ o. same.from σ (o, tt) }
emptied P r (d ∷ es) e same = let z : ◌≡◌ {A = ℕ} 0 1 = cc in absurd (omega arith)

pub few_classes : (r : Store) → classes r ≤ 256
unfolding classes
few_classes r = below_n 256
  where
    below_n : (n : ℕ) → classes_below r n ≤ n
    below_n zero = omega arith
    below_n (suc n) = let ih = below_n n in ⊎_elim
        (λ e. let h : ◌≡◌ {A = ℕ} (cond (eqb (root_of_lem r n) n) 1 0) 1 = ap (λ b. cond {A = ℕ} b 1 0) e in omega arith)
        (λ e. let h : ◌≡◌ {A = ℕ} (cond (eqb (root_of_lem r n) n) 1 0) 0 = ap (λ b. cond {A = ℕ} b 1 0) e in omega arith)
        (cases_Bool (eqb (root_of_lem r n) n))

-- the class of x takes the form h in place of its own
module _ (r s : Store) (S : Shaped r) (x : ℕ) (lx : x < 256) (h : Form) (R : Reformed (root_of_lem r x) h r s) where
  form_in : (a : ℕ) → root_of_lem r a ≡ root_of_lem r x → form_of s a ≡ h
  form_in a e = ap (form_at_lem s) (R.roots a ∙ e) ∙ R.here

  form_out : (a : ℕ) → (root_of_lem r a ≡ root_of_lem r x → ⊥) → form_of s a ≡ form_of r a
  form_out a n = ap (form_at_lem s) (R.roots a) ∙ R.there (root_of_lem r a) n

  reformed_shaped : Formed s.used h → Shaped s
  reformed_shaped F = record {
    used = omega (arith, R.used, S.used);
    low = λ a l. subst (λ (k : ℕ). k ≤ a) (sym (R.roots a)) (S.low a l);
    top = λ a l. R.roots (root_of_lem s a) ∙ ap (root_of_lem r) (R.roots a) ∙ S.top a l ∙ sym (R.roots a);
    named = λ a l. ⊎_elim
        (λ e. subst (Formed s.used) (sym (form_in a e)) F)
        (λ n. subst (Formed s.used) (sym (form_out a n)) (subst (λ (k : ℕ). Formed k (form_of r a)) (sym R.used) (S.named a l)))
        (cases_eq (root_of_lem r a) (root_of_lem r x));
  }

  module _ (g : Form) (ds : List Equation) (m : Meeting (form_of r x) g h ds) (σ : Assignment) where
    to_reformed : Solves r σ → Fits σ g (σ x) → Left s ds σ
    to_reformed o has =
        let both = m.to σ (σ x) (o.form x lx) has in (
          record {
            same = λ a l. o.same a l ∙ ap σ (sym (R.roots a));
            form = λ a l. ⊎_elim
                (λ e. subst (λ (k : Form). Fits σ k (σ a)) (sym (form_in a e)) (subst (λ (v : Value). Fits σ h v) (o.same x lx ∙ ap σ (sym e) ∙ sym (o.same a l)) both.0))
                (λ n. subst (λ (k : Form). Fits σ k (σ a)) (sym (form_out a n)) (o.form a l)) (cases_eq (root_of_lem r a) (root_of_lem r x));
          },
          both.1,
        )

    from_reformed : Left s ds σ → Solves r σ × Fits σ g (σ x)
    from_reformed o =
        let same : (a : ℕ) → a < 256 → σ a ≡ σ (root_of_lem r a) = λ a l. o.0.same a l ∙ ap σ (R.roots a) in
        let has : Fits σ h (σ x) = subst (λ (k : Form). Fits σ k (σ x)) (form_in x refl) (o.0.form x lx) in
        let old = m.one σ (σ x) has o.1 in (
          record {
            same = same;
            form = λ a l. ⊎_elim
                (λ (e : root_of_lem r a ≡ root_of_lem r x). subst (λ (k : ℕ). Fits σ (form_at_lem r k) (σ a)) (sym e) (subst (λ (v : Value). Fits σ (form_of r x) v) (same x lx ∙ ap σ (sym e) ∙ sym (same a l)) old))
                (λ n. subst (λ (k : Form). Fits σ k (σ a)) (form_out a n) (o.0.form a l)) (cases_eq (root_of_lem r a) (root_of_lem r x));
          },
          m.two σ (σ x) has o.1,
        )

-- a variable, whose class a has the form f, is to have another
pub shaped_start : (r s : Store) (t : Bind) (a : ℕ) (f h : Form) (ds : List Equation) → Shaped r → Formed r.used t.form → a ≡ root_of_lem r t.x → f ≡ form_at_lem r a → h ≡ chosen f t.form → clash f t.form ≡ false
    → ds ≡ sides f t.form ++ [] → Reformed a h r s → Started r s (Has t) ds
shaped_start r s t a f h ds S F is_a is_f is_h apart e R₀ =
    let x = t.x in
    let lx = t.within in
    let g = t.form in
    let R = subst (λ (k : ℕ). Reformed k h r s) is_a R₀ in
    let m : Meeting (form_of r x) g h (sides f g) =
    subst (λ (k : Form). Meeting k g h (sides f g)) (is_f ∙ ap (form_at_lem r) is_a) (subst (λ (k : Form). Meeting f g k (sides f g)) (sym is_h) (meeting f g apart)) in
    let nm = subst (λ (n : ℕ). Formed n h × Named n (sides f g)) (sym R.used) (m.named r.used (S.named x lx) F) in
    subst (λ (es : List Equation). Started r s (Has t) es) (sym (e ∙ append-nil (sides f g))) (record {
      shaped = reformed_shaped r s S x lx h R nm.0;
      used = R.used;
      named = nm.1;
      left = record { to = λ σ o. to_reformed r s S x lx h R g (sides f g) m σ o.0 o.1; from = λ σ o. from_reformed r s S x lx h R g (sides f g) m σ o };
      few = m.short;
    })

pub proper_more : (m n : ℕ) (t : Task) → m ≤ n → Proper m t → Proper n t
proper_more m n (Equal t) l P = (omega (arith, P.0), omega (arith, P.1))
proper_more m n (Has t) l P = (omega (arith, P.0), formed_more m n t.form l P.1)

asks_true : (t : Task) (σ : Assignment) → asks t σ ≡ true → Asks t σ
asks_true (Equal t) σ e = equal_true (σ t.x) (σ t.y) e
asks_true (Has t) σ e = fits_true σ t.form (σ t.x) e

pub asks_from : (t : Task) (σ : Assignment) → Asks t σ → asks t σ ≡ true
asks_from (Equal t) σ e = equal_from (σ t.x) (σ t.y) e
asks_from (Has t) σ e = fits_from σ t.form (σ t.x) e

pub with_true : (r : Store) (t : Task) (σ : Assignment) → (solves r σ && asks t σ) ≡ true → With r t σ
with_true r t σ e = let p = and_parts (solves r σ) (asks t σ) e in (solves_true r σ p.0, asks_true t σ p.1)

with_from : (r : Store) (t : Task) (σ : Assignment) → With r t σ → (solves r σ && asks t σ) ≡ true
with_from r t σ o = and_from (solves r σ) (asks t σ) (solves_from r σ o.0) (asks_from t σ o.1)

pub never_narrow : (r q : Store) (n : ℕ) (t : Task) → Reached r q n → ((σ : Assignment) → With q t σ → ⊥) → (σ : Assignment) → (solves r σ && asks t σ) ≡ false
never_narrow r q n t R h σ =
    sym (ap (λ (b : Bool). b && asks t σ) (solves_alike r q R.alike σ)) ∙ never_true (solves q σ && asks t σ) (λ e. h σ (with_true q t σ e))

-- a record that says the same, started and then solved
pub narrows : (r q u s : Store) (n : ℕ) (t : Task) (ds : List Equation) → Reached r q n → Started q u t ds → Solved u s ds → Grounds s true → Narrowed r s t
narrows r q u s n t ds R A B g =
    let all = same_trans (With q t) (Left u ds) (Solves s) A.left B.left in
    record {
      sound = record { shaped = B.shaped; levels = g };
      more = omega (arith, R.more, A.used, B.used);
      solutions = λ σ. same_test (solves s σ) (solves q σ && asks t σ) (λ e. with_from q t σ (all.from σ (solves_true s σ e))) (λ e. solves_from s σ (all.to σ (with_true q t σ e)))
          ∙ ap (λ (b : Bool). b && asks t σ) (solves_alike r q R.alike σ);
    }

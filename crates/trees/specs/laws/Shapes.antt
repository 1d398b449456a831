-- What a record says below the variables in use and from there on, and records that say the same. Assumes nothing.
use Rattle.std.specs.Prelude.{◌≡◌, ℕ, zero, suc, ◌<◌, ◌≤◌, Bool, ◌&&◌, slice_index_or}
use Rattle.std.proofs.Math.Path.{refl, ap}
use Rattle.std.proofs.Common.{sym, subst, ◌∙◌, arith}
use Rattle.bank.specs.Kinds.{Assignment}
use Rattle.records.specs.Cells.{cell_at}
use Rattle.records.proofs.Reaching
use Rattle.trees.specs.declared.cells.Cell.{Cell}
use Rattle.trees.specs.declared.cells.Form.{Form}
use Rattle.trees.specs.declared.cells.Form.TheVariants.{Free, Number, Pair}
use Rattle.trees.specs.Stores.{Store, lone, no_cell, root_of_lem, form_at_lem, form_of, Fits, solves, Solves, Formed, Shaped, Alike}
use Rattle.trees.specs.Values.{ready, deep, Sound}
use Rattle.trees.specs.laws.Solves.{solves_true, solves_from, same_test}

pub root_used : (r : Store) (a : ℕ) → a < r.used → root_of_lem r a ≡ (slice_index_or r.cells a no_cell).root
unfolding root_of_lem
root_used r a l = ap (λ (c : Cell). c.root) (Reaching.cell_in lone r a l)

pub root_past : (r : Store) (a : ℕ) → r.used ≤ a → root_of_lem r a ≡ a
unfolding root_of_lem
root_past r a h = ap (λ (c : Cell). c.root) (Reaching.cell_out lone r a h)

pub form_used : (r : Store) (a : ℕ) → a < r.used → form_at_lem r a ≡ (slice_index_or r.cells a no_cell).form
unfolding form_at_lem
form_used r a l = ap (λ (c : Cell). c.form) (Reaching.cell_in lone r a l)

pub form_past : (r : Store) (a : ℕ) → r.used ≤ a → form_at_lem r a ≡ Free
unfolding form_at_lem
form_past r a h = ap (λ (c : Cell). c.form) (Reaching.cell_out lone r a h)

-- records that are alike cell by cell
pub alike_cells : (r s : Store) → ((a : ℕ) → cell_at lone s a ≡ cell_at lone r a) → Alike r s
unfolding root_of_lem form_at_lem
alike_cells r s same = record { roots = λ a. ap (λ (c : Cell). c.root) (same a); forms = λ a. ap (λ (c : Cell). c.form) (same a) }

-- the class of a variable past those in use is free
pub free_past : (r : Store) (a : ℕ) → r.used ≤ a → form_of r a ≡ Free
free_past r a h = ap (form_at_lem r) (root_past r a h) ∙ form_past r a h

-- what is read of a variable's class, root first
pub form_read : (r : Store) (x root : ℕ) (f g : Form) → root ≡ root_of_lem r x → f ≡ form_at_lem r root → f ≡ g → form_of r x ≡ g
form_read r x root f g is_root is_f e = ap (form_at_lem r) (sym is_root) ∙ sym is_f ∙ e

pub formed_more : (m n : ℕ) (f : Form) → m ≤ n → Formed m f → Formed n f
formed_more m n Free l F = tt
formed_more m n (Number k) l F = F
formed_more m n (Pair x y) l F = (omega (arith, F.0), omega (arith, F.1))

pub formed : (r : Store) → Shaped r → (x : ℕ) → x < 256 → Formed 256 (form_of r x)
formed r S x l = formed_more r.used 256 (form_of r x) S.used (S.named x l)

module _ (r s : Store) (A : Alike r s) where
  pub same_form_of : (a : ℕ) → form_of s a ≡ form_of r a
  same_form_of a = A.forms (root_of_lem s a) ∙ ap (form_at_lem r) (A.roots a)

  pub shaped_alike : r.used ≤ s.used → s.used ≤ 256 → Shaped r → Shaped s
  shaped_alike more within S = record {
    used = within;
    low = λ a l. subst (λ (k : ℕ). k ≤ a) (sym (A.roots a)) (S.low a l);
    top = λ a l. A.roots (root_of_lem s a) ∙ ap (root_of_lem r) (A.roots a) ∙ S.top a l ∙ sym (A.roots a);
    named = λ a l. subst (Formed s.used) (sym (same_form_of a)) (formed_more r.used s.used (form_of r a) more (S.named a l));
  }

  to_alike : (σ : Assignment) → Solves r σ → Solves s σ
  to_alike σ o = record {
    same = λ a l. o.same a l ∙ ap σ (sym (A.roots a));
    form = λ a l. subst (λ (f : Form). Fits σ f (σ a)) (sym (same_form_of a)) (o.form a l);
  }

  from_alike : (σ : Assignment) → Solves s σ → Solves r σ
  from_alike σ o = record {
    same = λ a l. o.same a l ∙ ap σ (A.roots a);
    form = λ a l. subst (λ (f : Form). Fits σ f (σ a)) (same_form_of a) (o.form a l);
  }

  pub solves_alike : (σ : Assignment) → solves s σ ≡ solves r σ
  solves_alike σ = same_test (solves s σ) (solves r σ)
      (λ e. solves_from r σ (from_alike σ (solves_true s σ e))) (λ e. solves_from s σ (to_alike σ (solves_true r σ e)))

  same_ready : (p q : ℕ → Bool) (f : Form) → ((x : ℕ) → p x ≡ q x) → ready p f ≡ ready q f
  same_ready p q Free h = refl
  same_ready p q (Number k) h = refl
  same_ready p q (Pair x y) h = ap (λ (b : Bool). b && p y) (h x) ∙ ap (λ (b : Bool). q x && b) (h y)

  same_deep : (n x : ℕ) → deep s n x ≡ deep r n x
  unfolding deep
  same_deep zero x = refl
  same_deep (suc n) x = ap (ready (deep s n)) (same_form_of x) ∙ same_ready (deep s n) (deep r n) (form_of r x) (same_deep n)

  pub sound_alike : r.used ≤ s.used → s.used ≤ 256 → Sound r → Sound s
  sound_alike more within S = record { shaped = shaped_alike more within S.shaped; levels = λ x l. same_deep 256 x ∙ S.levels x l }

-- What writes to a record's cells do to what it says. Assumes nothing.
use Rattle.std.proofs.Common.{◌≡◌, ℕ, ◌<◌, ◌≤◌, cond, eqb, List, length, get_or, set, sym, ap, ◌∙◌, ⊎_elim, arith}
use Rattle.std.proofs.lemmas.List.{get_or-set_same, get_or-set_other}
use Rattle.std.proofs.lemmas.Bool.{cases_lt, cases_eq, ne_eqb, cond-false}
use Rattle.records.specs.Cells.{Reached as Grown}
use Rattle.trees.specs.declared.cells.Cell.{Cell}
use Rattle.trees.specs.declared.cells.Form.{Form}
use Rattle.trees.specs.Stores.{Store, lone, no_cell, root_of_lem, form_at_lem, Alike, Reached}
use Rattle.trees.specs.Joins.{Moved, Reformed}
use Rattle.trees.specs.laws.Shapes.{root_used, root_past, form_used, form_past, alike_cells}

-- the cell of a variable, once the class of `from` is put under `to`
abbrev pub under : ℕ → ℕ → Cell → Cell
under from to c = record { root = cond (eqb c.root from) to c.root; form = c.form }

-- the form of one cell is written
abbrev pub reform : List Cell → ℕ → Form → List Cell
reform cs at h = set cs at (record { root = (get_or cs at no_cell).root; form = h })

module _ (cs : List Cell) (at : ℕ) (h : Form) where
  here : at < length cs → (get_or (reform cs at h) at no_cell).form ≡ h
  here l = ap (λ (c : Cell). c.form) (get_or-set_same cs at _ no_cell l)

  elsewhere : (a : ℕ) → (a ≡ at → ⊥) → get_or (reform cs at h) a no_cell ≡ get_or cs a no_cell
  elsewhere a ne = get_or-set_other cs at a _ no_cell ne

  same_root : at < length cs → (a : ℕ) → (get_or (reform cs at h) a no_cell).root ≡ (get_or cs a no_cell).root
  same_root l a = ⊎_elim
      (λ (q : a ≡ at). ap (λ (n : ℕ). (get_or (reform cs at h) n no_cell).root) q ∙ ap (λ (c : Cell). c.root) (get_or-set_same cs at _ no_cell l) ∙ ap (λ (n : ℕ). (get_or cs n no_cell).root) (sym q))
      (λ ne. ap (λ (c : Cell). c.root) (elsewhere a ne))
      (cases_eq a at)

module _ (r s : Store) (same : s.used ≡ r.used) where
  -- what two records say, place by place
  root_at : (a : ℕ) → (a < r.used → (get_or s.cells a no_cell).root ≡ (get_or r.cells a no_cell).root) → root_of_lem s a ≡ root_of_lem r a
  root_at a e = ⊎_elim
      (λ (l : a < r.used). root_used s a (omega arith) ∙ e l ∙ sym (root_used r a l))
      (λ (g : r.used ≤ a). root_past s a (omega arith) ∙ sym (root_past r a g))
      (cases_lt a r.used)

  form_at : (a : ℕ) → (a < r.used → (get_or s.cells a no_cell).form ≡ (get_or r.cells a no_cell).form) → form_at_lem s a ≡ form_at_lem r a
  form_at a e = ⊎_elim
      (λ (l : a < r.used). form_used s a (omega arith) ∙ e l ∙ sym (form_used r a l))
      (λ (g : r.used ≤ a). form_past s a (omega arith) ∙ sym (form_past r a g))
      (cases_lt a r.used)

  module _ (at : ℕ) (h : Form) (l : at < r.used) where
    pub reformed : at < length r.cells → s.cells ≡ reform r.cells at h → Reformed at h r s
    reformed long e = record {
      used = same;
      roots = λ a. root_at a (λ k. ap (λ (cs : List Cell). (get_or cs a no_cell).root) e ∙ same_root r.cells at h long a);
      here = form_used s at (omega arith) ∙ ap (λ (cs : List Cell). (get_or cs at no_cell).form) e ∙ here r.cells at h long;
      there = λ a ne. form_at a (λ k. ap (λ (cs : List Cell). (get_or cs a no_cell).form) e ∙ ap (λ (c : Cell). c.form) (elsewhere r.cells at h a ne));
    }

    -- the cells were written before that
    pub moved : (from : ℕ) → from < r.used → (cs : List Cell) → at < length cs → ((a : ℕ) → a < r.used → get_or cs a no_cell ≡ under from at (get_or r.cells a no_cell)) → s.cells ≡ reform cs at h → Moved from at h r s
    moved from lf cs long done e = record {
      used = same;
      roots = λ a. ⊎_elim
          (λ (k : a < r.used).
          root_used s a (omega arith) ∙ ap (λ (ds : List Cell). (get_or ds a no_cell).root) e ∙ same_root cs at h long a ∙ ap (λ (c : Cell). c.root) (done a k)
          ∙ ap (λ (n : ℕ). cond (eqb n from) at n) (sym (root_used r a k)))
          (λ (g : r.used ≤ a).
          root_past s a (omega arith) ∙ sym (cond-false (eqb (root_of_lem r a) from) at (root_of_lem r a) (ne_eqb (root_of_lem r a) from (λ q. omega (arith, root_past r a g))) ∙ root_past r a g))
          (cases_lt a r.used);
      here = form_used s at (omega arith) ∙ ap (λ (ds : List Cell). (get_or ds at no_cell).form) e ∙ here cs at h long;
      there = λ a ne. form_at a (λ k. ap (λ (ds : List Cell). (get_or ds a no_cell).form) e ∙ ap (λ (c : Cell). c.form) (elsewhere cs at h a ne ∙ done a k));
    }

-- records that agree below the more that is in use
pub alike_below : (r s : Store) → r.used ≤ s.used → ((a : ℕ) → a < s.used → root_of_lem s a ≡ root_of_lem r a) → ((a : ℕ) → a < s.used → form_at_lem s a ≡ form_at_lem r a) → Alike r s
alike_below r s more roots forms = record {
  roots = λ a. ⊎_elim (roots a) (λ (g : s.used ≤ a). root_past s a g ∙ sym (root_past r a (omega arith))) (cases_lt a s.used);
  forms = λ a. ⊎_elim (forms a) (λ (g : s.used ≤ a). form_past s a g ∙ sym (form_past r a (omega arith))) (cases_lt a s.used);
}

-- more variables are in use
pub reached : (r s : Store) (n : ℕ) → r.used ≤ 256 → n ≤ 256 → Grown lone r s n → Reached r s n
reached r s n few within G = record {
  alike = alike_cells r s G.cells;
  more = omega (arith, G.used);
  covers = omega (arith, G.used);
  within = omega (arith, G.used, few, within);
}

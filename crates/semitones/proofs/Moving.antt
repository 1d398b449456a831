-- One class put under another, cell by cell. Assumes nothing.
use Rattle.std.proofs.Common.{◌≡◌, ℕ, ◌+◌, ◌<◌, ◌≤◌, cond, eqb, List, length, get_or, set, ℤ, ◌+ℤ◌, sym, ap, ◌∙◌, subst, ⊎_elim, arith}
use Rattle.std.proofs.lemmas.List.{get_or-set_same, get_or-set_other}
use Rattle.std.proofs.lemmas.Bool.{cases_lt, cases_eq, eq-eqb, ne_eqb, cond-true, cond-false}
use Rattle.semitones.specs.declared.cells.Cell.{Cell}
use Rattle.semitones.specs.Cells.{Record, no_cell, cell_of}
use Rattle.semitones.specs.Joins.{Same, Moved}
use Rattle.semitones.specs.laws.Solves.{cell_in, cell_out}

-- the cell of a node, once the class of `from` is put under `to`
abbrev pub moved : ℕ → ℕ → ℤ → Cell → Cell
moved from to gap c = cond (eqb c.root from) (record { root = to; by = c.by +ℤ gap }) c

pub moved_in : (from to : ℕ) (g : ℤ) (c : Cell) → c.root ≡ from → moved from to g c ≡ record { root = to; by = c.by +ℤ g }
moved_in from to g c e = cond-true (eqb c.root from) _ c (eq-eqb c.root from e)

pub moved_out : (from to : ℕ) (g : ℤ) (c : Cell) → (c.root ≡ from → ⊥) → moved from to g c ≡ c
moved_out from to g c n = cond-false (eqb c.root from) _ c (ne_eqb c.root from n)

-- of some cells, those below i are moved
pub record Moving (from to : ℕ) (gap : ℤ) (cs ds : List Cell) (i : ℕ) : Type 0 where
  pub done : (a : ℕ) → a < i → get_or ds a no_cell ≡ moved from to gap (get_or cs a no_cell)
  pub left : (a : ℕ) → i ≤ a → get_or ds a no_cell ≡ get_or cs a no_cell

module _ (from to : ℕ) (gap : ℤ) (cs ds : List Cell) (i : ℕ) (M : Moving from to gap cs ds i) where
  pub moving_yes : (c : Cell) → i < length ds → (get_or ds i no_cell).root ≡ from → c ≡ record { root = to; by = (get_or ds i no_cell).by +ℤ gap } → Moving from to gap cs (set ds i c) (i + 1)
  moving_yes c l e f = record {
    done = λ a h. ⊎_elim
        (λ (q : a ≡ i).
        ap (λ (n : ℕ). get_or (set ds i c) n no_cell) q ∙ get_or-set_same ds i c no_cell l ∙ f
        ∙ sym (moved_in from to gap (get_or ds i no_cell) e) ∙ ap (moved from to gap) (M.left i (omega arith) ∙ ap (λ (n : ℕ). get_or cs n no_cell) (sym q)))
        (λ ne. get_or-set_other ds i a c no_cell ne ∙ M.done a (omega arith))
        (cases_eq a i);
    left = λ a h. get_or-set_other ds i a c no_cell (λ q. omega arith) ∙ M.left a (omega arith);
  }

  pub moving_no : ((get_or ds i no_cell).root ≡ from → ⊥) → Moving from to gap cs ds (i + 1)
  moving_no n = record {
    done = λ a h. ⊎_elim
        (λ (q : a ≡ i).
        ap (λ (n : ℕ). get_or ds n no_cell) q ∙ sym (moved_out from to gap (get_or ds i no_cell) n)
        ∙ ap (moved from to gap) (M.left i (omega arith) ∙ ap (λ (n : ℕ). get_or cs n no_cell) (sym q)))
        (λ ne. M.done a (omega arith))
        (cases_eq a i);
    left = λ a h. M.left a (omega arith);
  }

-- a node that is not in use is not of the class of one that is
pub moving_all : (from to : ℕ) (gap : ℤ) (r s : Record) → s.used ≡ r.used
    → ((a : ℕ) → a < r.used → get_or s.cells a no_cell ≡ moved from to gap (get_or r.cells a no_cell)) → r.used ≤ 257 → from < r.used → Moved from to gap r s
moving_all from to gap r s used done few inside = record {
  few = omega (arith, used, few);
  cells = λ a. ⊎_elim
      (λ (h : a < r.used). cell_in s a (omega (arith, used)) ∙ done a h ∙ ap (moved from to gap) (sym (cell_in r a h)))
      (λ (h : r.used ≤ a).
      let own = cell_out r a h in
      cell_out s a (omega (arith, used)) ∙ sym own ∙ sym (moved_out from to gap (cell_of r a) (λ e. let q : a ≡ from = sym (ap (λ (c : Cell). c.root) own) ∙ e in omega arith)))
      (cases_lt a r.used);
}

pub moved_as : (from to : ℕ) (x g : ℤ) (r s : Record) → x ≡ g → Moved from to x r s → Moved from to g r s
moved_as from to x g r s e = subst (λ (z : ℤ). Moved from to z r s) e

pub moved_after : (from to : ℕ) (gap : ℤ) (r s t : Record) → Same r s → Moved from to gap s t → Moved from to gap r t
moved_after from to gap r s t A M = record { few = M.few; cells = λ a. M.cells a ∙ ap (moved from to gap) (A.cells a) }

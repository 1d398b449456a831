-- What stands at a node, in use or not, and records that say the same. Assumes nothing.
use Rattle.std.proofs.Common.{◌≡◌, ℕ, ◌<◌, ◌≤◌, get_or, max, sym, ◌∙◌, ⊎_elim, arith}
use Rattle.std.proofs.lemmas.Bool.{cases_lt, lt-ltb, le-ltb, cond-true, cond-false}
use Rattle.records.specs.declared.cells.Record.{Record}
use Rattle.records.specs.Cells.{cell_at, Reached}

module _ {C : Type 0} {N : ℕ} (own : ℕ → C) where
  pub cell_in : (r : Record C N) (a : ℕ) → a < r.used → cell_at own r a ≡ get_or r.cells a (own 0)
  cell_in r a h = cond-true _ (get_or r.cells a (own 0)) (own a) (lt-ltb a r.used h)

  pub cell_out : (r : Record C N) (a : ℕ) → r.used ≤ a → cell_at own r a ≡ own a
  cell_out r a h = cond-false _ (get_or r.cells a (own 0)) (own a) (le-ltb a r.used h)

  -- more nodes are in use, each of them as it stood
  pub reached : (r s : Record C N) (end : ℕ) → s.used ≡ max r.used end
      → ((a : ℕ) → a < r.used → get_or s.cells a (own 0) ≡ get_or r.cells a (own 0)) → ((a : ℕ) → r.used ≤ a → a < s.used → get_or s.cells a (own 0) ≡ own a)
      → Reached own r s end
  reached r s end used kept new = record {
    used = used;
    cells = λ a. ⊎_elim
        (λ (h : a < s.used). cell_in s a h ∙ ⊎_elim (λ (k : a < r.used). kept a k ∙ sym (cell_in r a k)) (λ (k : r.used ≤ a). new a k h ∙ sym (cell_out r a k)) (cases_lt a r.used))
        (λ (h : s.used ≤ a). cell_out s a h ∙ sym (cell_out r a (omega (arith, used))))
        (cases_lt a s.used);
  }

-- What stands at the nodes of a record, by what stands at a node that is not in use. Assumes nothing.
--
--   cell_at   what stands at a node
--   Alike     two records say the same, of as many nodes
--   Reached   the nodes below an end are in use, and the record says the same
use Rattle.std.specs.Prelude.{◌≡◌, ℕ, cond, max, nat_lt, slice_index_or}
use Rattle.records.specs.declared.cells.Record.{Record}

-- what `slice_index_or` gives past the last cell does not matter, since none is in use there
abbrev pub cell_at : {C : Type 0} {N : ℕ} → (ℕ → C) → Record C N → ℕ → C
cell_at own r a = cond (nat_lt a r.used) (slice_index_or r.cells a (own 0)) (own a)

pub record Alike {C : Type 0} {N : ℕ} (own : ℕ → C) (r s : Record C N) : Type 0 where
  pub used : s.used ≡ r.used
  pub cells : (a : ℕ) → cell_at own s a ≡ cell_at own r a

pub record Reached {C : Type 0} {N : ℕ} (own : ℕ → C) (r s : Record C N) (end : ℕ) : Type 0 where
  pub used : s.used ≡ max r.used end
  pub cells : (a : ℕ) → cell_at own s a ≡ cell_at own r a

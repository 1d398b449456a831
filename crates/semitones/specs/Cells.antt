-- What a record of cells means. Assumes nothing.
--
--   Record    the record of a store
--   lone      the cell of a node that is not in use
--   node      the value of a node: node 0 is the number 0, and node v + 1 the variable v
--   root_of_lem   the lowest node of a node's class
--   by_of     how far a node lies above that one
--   solves    the solutions: the assignments at which every node lies where its cell says
--   apart     a distance after its sign, and nothing for distance 0
--   named     the text by a root and a distance: a number, or the name of a variable with the distance from it
--   shown     the text of a variable
--   stores    the meaning of slots
--   tied      how many of the nodes below n have a root (for private contracts, as is the next)
--   Sound     what every store's record keeps
use Rattle.std.specs.Prelude.{◌≡◌, ℕ, zero, suc, ◌+◌, ◌*◌, ◌<◌, ◌≤◌, true, cond, ◌&&◌, List, [], ◌∷◌, ◌++◌, ℤ, pos, negsuc, ◌+ℤ◌, ◌≤ℤ◌, decimal, ◌==◌}
use Rattle.std.specs.Fmt.{signed_decimal}
use Rattle.bank.specs.Kinds.{Assignment, Solutions, all_admitted}
use Rattle.bank.specs.Views.{Meaning}
use Rattle.records.specs.declared.cells.Record.{Record as RecordOf}
use Rattle.records.specs.declared.slots.Slot.{Slot}
use Rattle.records.specs.Cells.{cell_at}
use Rattle.records.specs.Slots.{means}
use Rattle.semitones.specs.Whole.{whole, number_of}
use Rattle.std.specs.Ordering.{int_eq}
use Rattle.semitones.specs.declared.cells.Cell.{Cell}

abbrev pub Record : Type 0
Record = RecordOf Cell 257

abbrev pub lone : ℕ → Cell
lone a = record { root = a; by = pos 0 }

abbrev pub node : Assignment → ℕ → ℤ
node σ zero = pos 0
node σ (suc v) = number_of (σ v)

abbrev pub no_cell : Cell
no_cell = record { root = 0; by = pos 0 }

abbrev pub cell_of : Record → ℕ → Cell
cell_of = cell_at lone

abbrev pub root_of_lem : Record → ℕ → ℕ
root_of_lem r a = (cell_of r a).root

abbrev pub by_of : Record → ℕ → ℤ
by_of r a = (cell_of r a).by

-- each of the nodes below n lies where its cell says
unfoldable pub agrees : Record → ℕ → Solutions
agrees r zero σ = true
agrees r (suc n) σ = int_eq (node σ n) (node σ (root_of_lem r n) +ℤ by_of r n) && agrees r n σ

unfoldable pub solves : Record → Solutions
solves r σ = all_admitted whole 256 σ && agrees r 257 σ

abbrev pub apart : ℤ → List ℕ
apart (pos zero) = []
apart (pos (suc n)) = 43 ∷ decimal (suc n)
apart (negsuc n) = 45 ∷ decimal (suc n)

abbrev pub named : ℕ → ℤ → List ℕ
named zero z = signed_decimal z
named (suc v) z = 95 ∷ (decimal v ++ apart z)

unfoldable pub shown : Record → ℕ → List ℕ
shown r v = named (root_of_lem r (suc v)) (by_of r (suc v))

abbrev pub stores : List (Slot Record) → ℕ → Meaning
stores slots spare = means solves shown slots spare

unfoldable pub tied : Record → ℕ → ℕ → ℕ
tied r ρ zero = 0
tied r ρ (suc n) = cond (root_of_lem r n == ρ) 1 0 + tied r ρ n

-- `near` keeps distances small: those of a class of n nodes are at most 1,000 · (n - 1)
pub record Sound (r : Record) : Type 0 where
  pub few : r.used ≤ 257
  pub low : (a : ℕ) → root_of_lem r a ≤ a
  pub top : (a : ℕ) → root_of_lem r (root_of_lem r a) ≡ root_of_lem r a
  pub flat : (a : ℕ) → by_of r (root_of_lem r a) ≡ pos 0
  pub near : (a b : ℕ) → a < 257 → b < 257 → root_of_lem r a ≡ root_of_lem r b → (by_of r a +ℤ pos 1000) ≤ℤ (by_of r b +ℤ pos (1000 * tied r (root_of_lem r a) 257))

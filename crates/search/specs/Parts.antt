-- What contracts see of a search. Assumes nothing.
--
--   Parts     all its parts: it is over where no tree is left
--   tree_of   the tree that is left, or a leaf that stands for nothing
use Rattle.std.specs.Prelude.{ℕ, Bool, replicate, Some, None, Option, Vec, Box, refl}
use Rattle.std.proofs.Common.{arith}
use Rattle.std.specs.declared.alloc.Global.{Global}
use Rattle.book.specs.declared.Book.{Book}
use Rattle.frontier.specs.declared.tree.Found.{Found}
use Rattle.row.specs.declared.ShortRow.{ShortRow}
use Rattle.frontier.specs.declared.tree.Tree.{Tree}
use Rattle.frontier.specs.declared.tree.Tree.TheVariants.{Leaf}

pub record Parts (S : Type 0) : Type 0 where
  pub bank : S
  pub book : Book
  pub params : ℕ
  pub tree : Tree
  pub pool : Vec (Box Tree Global) Global
  pub waiting : Option Found
  pub posed : Bool
  pub over : Bool
  pub steps : ℕ
  pub stock : ℕ

pub blank : ShortRow ℕ 16
blank = record { places = replicate 16 0; len = 0; short = omega arith; whole = refl; few = omega arith }

abbrev pub tree_of : Option Tree → Tree
tree_of None = Leaf (record { goal = 0; frame = blank; n = 0; store = 0 })
tree_of (Some t) = t

-- The book whose goals are solved, and what a bank has to know of it. Assumes nothing.
--
--   known      a goal tells nothing, or its code is known and takes so many variables
--   knows_at   so the goal at a place
--   Known      so each goal of some
--   Copies     the book in memory means the rules, and the kind knows what it tells
--   Reads      a place of the book stands for a goal, with so many slots in scope
use Rattle.std.specs.Prelude.{◌≡◌, ℕ, ◌<◌, Bool, true, List, length, slice_index_or}
use Rattle.bank.specs.Kinds.{Kind, takes}
use Rattle.book.specs.declared.Book.{Book}
use Rattle.book.specs.declared.Form.{Form}
use Rattle.book.specs.declared.Form.TheVariants.{Tell, And, Or, New, Call}
use Rattle.book.specs.declared.Node.{Node}
use Rattle.book.specs.Language.{Goal, Rules, WellFormed}
use Rattle.book.specs.Meaning.{book_nodes, meaning}
use Rattle.row.specs.Shorts.{items}
use Rattle.book.specs.Table.{blank, goal_at, scope_at}

abbrev pub known : Kind → Form → Bool
known K (Tell t) = takes (K.arity t.code) (length (items t.slots))
known K (And a b) = true
known K (Or a b) = true
known K (New a) = true
known K (Call c) = true

abbrev pub knows_at : Kind → List Node → ℕ → Bool
knows_at K ns i = known K (slice_index_or ns i blank).form

-- each of the first n
abbrev pub Known : Kind → List Node → ℕ → Type 0
Known K ns n = (i : ℕ) → i < n → knows_at K ns i ≡ true

pub record Copies (K : Kind) (book : Book) (rules : Rules) : Type 0 where
  pub means : meaning book ≡ rules
  pub well_formed : WellFormed rules
  pub known : Known K (book_nodes book) (length (book_nodes book))

pub record Reads (book : Book) (scope place : ℕ) (g : Goal) : Type 0 where
  pub inside : place < length (book_nodes book)
  pub scoped : scope_at (book_nodes book) place ≡ scope
  pub is : goal_at (book_nodes book) place ≡ g

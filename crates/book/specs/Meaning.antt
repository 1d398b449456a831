-- What a table and a book of the code stand for. Assumes nothing.
use Rattle.std.specs.Prelude.{ℕ, List}
use Rattle.row.specs.Shorts.{items}
use Rattle.book.specs.declared.Book.{Book}
use Rattle.book.specs.declared.Node.{Node}
use Rattle.book.specs.declared.Rule.{Rule}
use Rattle.book.specs.declared.Table.{Table}
use Rattle.book.specs.Language.{Rules}
use Rattle.book.specs.Table.{rules_of, heads_of}

-- the nodes of a table
abbrev pub nodes : Table → List Node
nodes t = items t.goals

abbrev pub book_nodes : Book → List Node
book_nodes b = nodes b.table

abbrev pub book_rules : Book → List Rule
book_rules b = items b.rules

abbrev pub heads : Book → List ℕ
heads b = heads_of (book_rules b)

-- the book: its rules, each with the goal that its nodes make
abbrev pub meaning : Book → Rules
meaning b = rules_of (book_nodes b) (book_rules b)

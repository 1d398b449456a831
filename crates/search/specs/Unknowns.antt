-- The lines with a tell that a bank does not know. Assumes nothing.
--
--   Unknown         the first of them, among some goals
--   unknown_lines   all of a book, goal by goal
use Rattle.std.specs.Prelude.{◌≡◌, ℕ, ◌<◌, ◌≤◌, false, not, map, List, length}
use Rattle.std.specs.List.{filter, range_with_len}
use Rattle.bank.specs.Kinds.{Kind}
use Rattle.book.specs.declared.Node.{Node}
use Rattle.book.specs.Table.{line_at}
use Rattle.frontier.specs.Books.{knows_at}

-- of the first n
pub record Unknown (K : Kind) (ns : List Node) (n line : ℕ) : Type 0 where
  pub place : ℕ
  pub inside : place < n
  pub unknown : knows_at K ns place ≡ false
  pub its_line : line_at ns place ≡ line
  pub first : (i : ℕ) → i < n → knows_at K ns i ≡ false → line ≤ line_at ns i

abbrev pub unknown_lines : Kind → List Node → List ℕ
unknown_lines K ns = map (λ (i : ℕ). line_at ns i) (filter (λ (i : ℕ). not (knows_at K ns i)) (range_with_len 0 (length ns)))

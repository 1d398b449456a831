-- What a place of the book says of the goal that it stands for. Assumes nothing.
use Rattle.std.proofs.Common.{◌≡◌, ℕ, suc, ◌<◌, ◌≤◌, length, sym, refl, ◌∙◌, arith}
use Rattle.book.specs.declared.Book.{Book}
use Rattle.book.specs.declared.Form.TheVariants.{Tell, And, Or, New, Call}
use Rattle.book.specs.Language.{Goal, tell, conj, disj, fresh, call}
use Rattle.book.specs.Meaning.{book_nodes, book_rules}
use Rattle.row.specs.Shorts.{items}
use Rattle.book.specs.Table.{goal_at, InScope, Below, Stands}
use Rattle.line.specs.declared.Call.{Call as CallOf}
use Rattle.line.specs.declared.Tell.{Tell as TellOf}
use Rattle.numeral.specs.Reads.{size}
use Rattle.frontier.specs.Books.{Reads}

-- a goal below one that is there
below_reads : {book : Book} {p i : ℕ} {g : Goal} (a scope line : ℕ) → Reads book p i g → Below (book_nodes book) i a scope line → Reads book scope a (goal_at (book_nodes book) a)
below_reads a scope line r b = record { inside = let x = r.inside in let y = b.earlier in omega arith; scoped = b.scoped; is = refl }

as_scoped : {book : Book} {i : ℕ} {g : Goal} (p q : ℕ) → p ≡ q → Reads book p i g → Reads book q i g
as_scoped p q e r = record { inside = r.inside; scoped = r.scoped ∙ e; is = r.is }

pub record IsTell (g : Goal) (p : ℕ) (t : TellOf) : Type 0 where
  pub is : tell t.code t.k (items t.slots) ≡ g
  pub small : size t.k ≤ 1000
  pub scope : InScope 3 p t.slots

pub record IsTwo (book : Book) (p : ℕ) (g : Goal) (make : Goal → Goal → Goal) (a b : ℕ) : Type 0 where
  pub first : Goal
  pub second : Goal
  pub is : make first second ≡ g
  pub reads_first : Reads book p a first
  pub reads_second : Reads book p b second

pub record IsNew (book : Book) (p : ℕ) (g : Goal) (a : ℕ) : Type 0 where
  pub inner : Goal
  pub is : fresh inner ≡ g
  pub room : p < 16
  pub reads : Reads book (suc p) a inner

pub record IsCall (book : Book) (p : ℕ) (g : Goal) (c : CallOf) : Type 0 where
  pub is : call c.rule (items c.slots) ≡ g
  pub inside : c.rule < length (book_rules book)
  pub scope : InScope 16 p c.slots

scoped_as : {most : ℕ} (p q : ℕ) (t : TellOf) → p ≡ q → InScope most p t.slots → InScope most q t.slots
scoped_as p q t e z = record { few = z.few; below = λ j h. let k = z.below j h in omega (arith, e) }

module _ {book : Book} {p i : ℕ} {g : Goal} (r : Reads book p i g) where
  pub at_tell : (t : TellOf) → Stands (book_rules book) (book_nodes book) i (Tell t) → IsTell g p t
  at_tell t s = record { is = sym s.3 ∙ r.is; small = s.1; scope = scoped_as _ p t r.scoped s.2 }

  pub at_and : (a b : ℕ) → Stands (book_rules book) (book_nodes book) i (And a b) → IsTwo book p g conj a b
  at_and a b s = record {
    first = _;
    second = _;
    is = sym s.2 ∙ r.is;
    reads_first = as_scoped _ p r.scoped (below_reads a _ _ r s.0);
    reads_second = as_scoped _ p r.scoped (below_reads b _ _ r s.1);
  }

  pub at_or : (a b : ℕ) → Stands (book_rules book) (book_nodes book) i (Or a b) → IsTwo book p g disj a b
  at_or a b s = record {
    first = _;
    second = _;
    is = sym s.2 ∙ r.is;
    reads_first = as_scoped _ p r.scoped (below_reads a _ _ r s.0);
    reads_second = as_scoped _ p r.scoped (below_reads b _ _ r s.1);
  }

  pub at_new : (a : ℕ) → Stands (book_rules book) (book_nodes book) i (New a) → IsNew book p g a
  at_new a s =
      let e = r.scoped in
      record {
        inner = _;
        is = sym s.2 ∙ r.is;
        room = let h = s.0 in omega arith;
        reads = as_scoped _ (suc p) (omega arith) (below_reads a _ _ r s.1);
      }

  pub at_call : (c : CallOf) → Stands (book_rules book) (book_nodes book) i (Call c) → IsCall book p g c
  at_call c s = record {
    is = sym s.3 ∙ r.is;
    inside = s.0;
    scope = record { few = s.2.few; below = λ j h. let k = s.2.below j h in let e = r.scoped in omega arith };
  }

-- The least line of the goals that are not known is the first. Assumes nothing.
use Rattle.std.proofs.Common.{◌≡◌, ℕ, zero, suc, ◌+◌, ◌≤◌, min, not, map, Bool, true, false, leb, List, ◌∷◌, length, None, Some, Option, sym, refl, subst, arith, below_more, leb-true}
use borrow.Author.Tests.{false-leb}
use Rattle.std.specs.List.{filter, fold, range_with_len, reduce}
use Rattle.std.proofs.lemmas.Bool.{both_ways}
use Rattle.bank.specs.Kinds.{Kind}
use Rattle.book.specs.declared.Node.{Node}
use Rattle.book.specs.Table.{line_at}
use Rattle.frontier.specs.Books.{knows_at, Known}
use Rattle.search.specs.Unknowns.{Unknown, unknown_lines}

-- of the first n goals: there is a first such line, or each goal is known
abbrev pub UnknownOf : Kind → List Node → ℕ → Option ℕ → Type 0
UnknownOf K ns n None = Known K ns n
UnknownOf K ns n (Some line) = Unknown K ns n line

module _ (K : Kind) (ns : List Node) where
  -- the lines of n goals from a on, of those that are not known
  abbrev pub lines : ℕ → ℕ → List ℕ
  lines a n = map (λ (i : ℕ). line_at ns i) (filter (λ (i : ℕ). not (knows_at K ns i)) (range_with_len a n))

-- One goal more, the i-th.
module _ (K : Kind) (ns : List Node) (i : ℕ) where
  known_more : (line : ℕ) → knows_at K ns i ≡ true → Unknown K ns i line → Unknown K ns (i + 1) line
  known_more line h u = record {
    place = u.place;
    inside = let p = u.inside in omega arith;
    unknown = u.unknown;
    its_line = u.its_line;
    first = below_more (λ k. knows_at K ns k ≡ false → line ≤ line_at ns k) i u.first (λ e. absurd (both_ways (knows_at K ns i) e h));
  }

  first_one : knows_at K ns i ≡ false → Known K ns i → Unknown K ns (i + 1) (line_at ns i)
  first_one h u = record {
    place = i;
    inside = omega arith;
    unknown = h;
    its_line = refl;
    first = below_more (λ k. knows_at K ns k ≡ false → line_at ns i ≤ line_at ns k) i (λ k l e. absurd (both_ways (knows_at K ns k) e (u k l))) (λ e. omega arith);
  }

  unknown_more : (line : ℕ) → knows_at K ns i ≡ false → Unknown K ns i line → Unknown K ns (i + 1) (min line (line_at ns i))
  unknown_more line h u = split (leb line (line_at ns i)) refl
    where
      split : (b : Bool) → leb line (line_at ns i) ≡ b → Unknown K ns (i + 1) (min line (line_at ns i))
      split true e =
          let l = leb-true line (line_at ns i) e in
          let m : min line (line_at ns i) ≡ line = omega arith in
          subst (Unknown K ns (i + 1)) (sym m) (record {
            place = u.place;
            inside = let p = u.inside in omega arith;
            unknown = u.unknown;
            its_line = u.its_line;
            first = below_more (λ k. knows_at K ns k ≡ false → line ≤ line_at ns k) i u.first (λ x. l);
          })
      split false e =
          let l = false-leb line (line_at ns i) (sym e) in
          let m : min line (line_at ns i) ≡ line_at ns i = omega arith in
          subst (Unknown K ns (i + 1)) (sym m) (record {
            place = i;
            inside = omega arith;
            unknown = h;
            its_line = refl;
            first = below_more (λ k. knows_at K ns k ≡ false → line_at ns i ≤ line_at ns k) i (λ k j x. let y = u.first k j x in omega arith) (λ x. omega arith);
          })

-- behind a first line among the first a goals
from_line : (K : Kind) (ns : List Node) (a n line : ℕ) → Unknown K ns a line → Unknown K ns (a + n) (fold min line (lines K ns a n))
from_line K ns a zero line u = let e : a ≡ a + 0 = omega arith in subst (λ (k : ℕ). Unknown K ns k line) e u
from_line K ns a (suc n) line u =
    let e : a + 1 + n ≡ a + suc n = omega arith in
    subst (λ (k : ℕ). Unknown K ns k (fold min line (lines K ns a (suc n)))) e (at (knows_at K ns a) refl (from_line K ns (a + 1) n))
  where
    at : (b : Bool) → knows_at K ns a ≡ b → ((l : ℕ) → Unknown K ns (a + 1) l → Unknown K ns (a + 1 + n) (fold min l (lines K ns (a + 1) n))) → Unknown K ns (a + 1 + n) (fold min line (lines K ns a (suc n)))
    at true e rest =
        let is : lines K ns a (suc n) ≡ lines K ns (a + 1) n = rw e refl in
        subst (λ (xs : List ℕ). Unknown K ns (a + 1 + n) (fold min line xs)) (sym is) (rest line (known_more K ns a line e u))
    at false e rest =
        let is : lines K ns a (suc n) ≡ line_at ns a ∷ lines K ns (a + 1) n = rw e refl in
        subst (λ (xs : List ℕ). Unknown K ns (a + 1 + n) (fold min line xs)) (sym is) (rest (min line (line_at ns a)) (unknown_more K ns a line e u))

-- behind a goals that are known
from_known : (K : Kind) (ns : List Node) (a n : ℕ) → Known K ns a → UnknownOf K ns (a + n) (reduce min (lines K ns a n))
from_known K ns a zero u = let e : a ≡ a + 0 = omega arith in subst (λ (k : ℕ). Known K ns k) e u
from_known K ns a (suc n) u =
    let e : a + 1 + n ≡ a + suc n = omega arith in
    subst (λ (k : ℕ). UnknownOf K ns k (reduce min (lines K ns a (suc n)))) e (at (knows_at K ns a) refl (from_known K ns (a + 1) n))
  where
    at : (b : Bool) → knows_at K ns a ≡ b → (Known K ns (a + 1) → UnknownOf K ns (a + 1 + n) (reduce min (lines K ns (a + 1) n))) → UnknownOf K ns (a + 1 + n) (reduce min (lines K ns a (suc n)))
    at true e rest =
        let is : lines K ns a (suc n) ≡ lines K ns (a + 1) n = rw e refl in
        subst (λ (xs : List ℕ). UnknownOf K ns (a + 1 + n) (reduce min xs)) (sym is) (rest (below_more (λ k. knows_at K ns k ≡ true) a u e))
    at false e rest =
        let is : lines K ns a (suc n) ≡ line_at ns a ∷ lines K ns (a + 1) n = rw e refl in
        subst (λ (xs : List ℕ). UnknownOf K ns (a + 1 + n) (reduce min xs)) (sym is) (from_line K ns (a + 1) n (line_at ns a) (first_one K ns a e u))

pub first_unknown : (K : Kind) (ns : List Node) (r : Option ℕ) → r ≡ reduce min (unknown_lines K ns) → UnknownOf K ns (length ns) r
first_unknown K ns r e =
    let all : 0 + length ns ≡ length ns = omega arith in
    subst (UnknownOf K ns (length ns)) (sym e) (subst (λ (k : ℕ). UnknownOf K ns k (reduce min (unknown_lines K ns))) all (from_known K ns 0 (length ns) (λ i l. absurd (omega arith))))

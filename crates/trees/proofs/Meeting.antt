-- Two forms of one class. Assumes nothing.
use Rattle.std.proofs.Common.{◌≡◌, ℕ, ◌≤◌, true, false, List, length, sym, refl, ap, ◌∙◌, arith}
use Rattle.std.proofs.lemmas.Bool.{both_ways, not-false, not-true}
use Rattle.std.specs.Ordering.{int_eq}
use Rattle.std.proofs.lemmas.Bool.Decides.{Decides-int_eq}
use Rattle.bank.specs.Kinds.{Value, number, pair, Assignment}
use Rattle.trees.specs.declared.cells.Form.{Form}
use Rattle.trees.specs.declared.cells.Form.TheVariants.{Free, Number, Pair}
use Rattle.trees.specs.declared.cells.Equation.{Equation}
use Rattle.trees.specs.Stores.{Fits, Holds, Formed, Named}
use Rattle.trees.specs.Joins.{sides, clash, chosen}

-- both forms are the form h with the equations ds
pub record Meeting (f g h : Form) (ds : List Equation) : Type 0 where
  pub to : (σ : Assignment) (v : Value) → Fits σ f v → Fits σ g v → Fits σ h v × Holds σ ds
  pub one : (σ : Assignment) (v : Value) → Fits σ h v → Holds σ ds → Fits σ f v
  pub two : (σ : Assignment) (v : Value) → Fits σ h v → Holds σ ds → Fits σ g v
  pub named : (n : ℕ) → Formed n f → Formed n g → Formed n h × Named n ds
  pub short : length ds ≤ 2

pub flip : (f g h : Form) (ds : List Equation) → Meeting f g h ds → Meeting g f h ds
flip f g h ds M = record {
  to = λ σ v p q. M.to σ v q p;
  one = M.two;
  two = M.one;
  named = λ n p q. M.named n q p;
  short = M.short;
}

left_of : Value → Value
left_of (number z) = number z
left_of (pair a b) = a

right_of : Value → Value
right_of (number z) = number z
right_of (pair a b) = b

pub same_left : (a b c d : Value) → pair a b ≡ pair c d → a ≡ c
unfolding left_of
same_left a b c d e = ap left_of e

pub same_right : (a b c d : Value) → pair a b ≡ pair c d → b ≡ d
unfolding right_of
same_right a b c d e = ap right_of e

pub meeting : (f g : Form) → clash f g ≡ false → Meeting f g (chosen f g) (sides f g)
meeting Free g e = record { to = λ σ v p q. (q, tt); one = λ σ v p q. tt; two = λ σ v p q. p; named = λ n p q. (q, tt); short = omega arith }
meeting (Number j) Free e = record { to = λ σ v p q. (p, tt); one = λ σ v p q. p; two = λ σ v p q. tt; named = λ n p q. (p, tt); short = omega arith }
meeting (Number j) (Number k) e =
    let same : j ≡ k = (Decides-int_eq j k).0 (not-false (int_eq j k) e) in
    record {
      to = λ σ v p q. (p, tt);
      one = λ σ v p q. p;
      two = λ σ v p q. p ∙ ap number same;
      named = λ n p q. (p, tt);
      short = omega arith;
    }
meeting (Number j) (Pair c d) e = absurd (both_ways true e refl)
meeting (Pair a b) Free e = record { to = λ σ v p q. (p, tt); one = λ σ v p q. p; two = λ σ v p q. tt; named = λ n p q. (p, tt); short = omega arith }
meeting (Pair a b) (Number k) e = absurd (both_ways true e refl)
meeting (Pair a b) (Pair c d) e = record {
  to = λ σ v p q. (p, (same_left (σ a) (σ b) (σ c) (σ d) (sym p ∙ q), (same_right (σ a) (σ b) (σ c) (σ d) (sym p ∙ q), tt)));
  one = λ σ v p q. p;
  two = λ σ v p q. p ∙ ap (λ x. pair x (σ b)) q.0 ∙ ap (pair (σ c)) q.1.0;
  named = λ n p q. (p, ((p.0, q.0), ((p.1, q.1), tt)));
  short = omega arith;
}

pub clashing : (f g : Form) → clash f g ≡ true → (σ : Assignment) (v : Value) → Fits σ f v → Fits σ g v → ⊥
clashing Free g e σ v p q = both_ways false refl e
clashing (Number j) Free e σ v p q = both_ways false refl e
clashing (Number j) (Number k) e σ v p q =
    let n : number j ≡ number k = sym p ∙ q in
    let same : j ≡ k = cc in
    both_ways (int_eq j k) (not-true (int_eq j k) e) ((Decides-int_eq j k).1 same)
clashing (Number j) (Pair c d) e σ v p q = let z : ◌≡◌ {A = ℕ} 0 1 = cc in omega arith
clashing (Pair a b) Free e σ v p q = both_ways false refl e
clashing (Pair a b) (Number k) e σ v p q = let z : ◌≡◌ {A = ℕ} 0 1 = cc in omega arith
clashing (Pair a b) (Pair c d) e σ v p q = both_ways false refl e

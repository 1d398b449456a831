-- Marking from the bottom up. Assumes nothing.
use Rattle.std.proofs.Common.{◌≡◌, ℕ, zero, suc, ◌+◌, ◌<◌, ◌≤◌, Bool, true, false, cond, List, [], ◌∷◌, length, get_or, set, replicate, count_by, sym, refl, ap, ◌∙◌, subst, ⊎_elim, add-one, arith, length-set}
use Rattle.std.proofs.lemmas.List.{get_or-set_same, get_or-set_other, get_or_past, get_or-replicate, length-replicate}
use Rattle.std.proofs.lemmas.List.Sums.{sum_by-set, sum_by-cons, count_by-le-length}
use Rattle.std.proofs.lemmas.Bool.{and_cases, and_from, and_parts, cases_eq, cases_lt, cases_Bool, both_ways}
use Rattle.bank.specs.Kinds.{Value, number, pair, Assignment}
use Rattle.trees.specs.declared.cells.Form.{Form}
use Rattle.trees.specs.declared.cells.Form.TheVariants.{Free, Number, Pair}
use Rattle.trees.specs.Stores.{Store, form_of, Fits, Solves, Formed, Shaped}
use Rattle.trees.specs.laws.Shapes.{free_past}
use Rattle.trees.specs.laws.Depths.{ready_more, deep_more, deep_le, free_deep}
use Rattle.trees.specs.Values.{ready, deep}
use Rattle.trees.specs.Marks.{marked, Marked, Stuck, Grounds}

-- the size of a value
pub size : Value → ℕ
size (number z) = 0
size (pair u v) = suc (size u + size v)

-- what is not marked has no finite tree
module _ (r : Store) (S : Shaped r) (marks : List Bool) (stuck : Stuck r marks 0) (σ : Assignment) (o : Solves r σ) where
  step : (v : Value) (f : Form) → Formed r.used f → Fits σ f v → ready (marked marks) f ≡ false → (y : ℕ) × ((y < r.used) × (size (σ y) < size v) × (marked marks y ≡ false))
  unfolding size
  step v Free k h e = absurd (both_ways true e refl)
  step v (Number z) k h e = absurd (both_ways true e refl)
  step v (Pair x y) k h e =
      let big : size v ≡ suc (size (σ x) + size (σ y)) = ap size h in
      ⊎_elim (λ n. (x, (k.0, omega arith, n))) (λ n. (y, (k.1, omega arith, n))) (and_cases (marked marks x) (marked marks y) e)

  pub no_tree : (n x : ℕ) → x < r.used → size (σ x) < n → marked marks x ≡ false → ⊥
  no_tree zero x l k e = omega arith
  no_tree (suc n) x l k e =
      let small : x < 256 = omega (arith, S.used) in
      let next = step (σ x) (form_of r x) (S.named x small) (o.form x small) (stuck x (omega arith) l e) in
      no_tree n next.0 next.1.0 (omega (arith, next.1.1)) next.1.2

  pub never : (x : ℕ) → x < r.used → marked marks x ≡ false → ⊥
  never x l e = no_tree (suc (size (σ x))) x l (omega arith) e

-- counting marks
one : Bool → ℕ
one b = cond b 1 0

pub count_mark : (marks : List Bool) (x : ℕ) → x < length marks → marked marks x ≡ false → count_by (λ b. b) (set marks x true) ≡ count_by (λ b. b) marks + 1
count_mark marks x l e =
    let zero : ◌≡◌ {A = ℕ} (cond (get_or marks x false) 1 0) 0 = ap (λ b. cond {A = ℕ} b 1 0) e in
    let s = sum_by-set (λ b. cond {A = ℕ} b 1 0) marks x true false l in
    omega arith

pub all_marked : (marks : List Bool) → count_by (λ b. b) marks ≡ length marks → (x : ℕ) → x < length marks → marked marks x ≡ true
all_marked marks e x l = ⊎_elim (λ t. t)
    (λ f. let more = count_mark marks x l f in let most = count_by-le-length (λ b. b) (set marks x true) in let len = length-set marks x true in let z : ⊥ = omega arith in absurd z)
    (cases_Bool (marked marks x))

pub some_unmarked : (marks : List Bool) → count_by (λ b. b) marks < length marks → (x : ℕ) × ((x < length marks) × (marked marks x ≡ false))
some_unmarked [] e = let z : ⊥ = omega arith in absurd z
some_unmarked (false ∷ bs) e = (0, (omega arith, refl))
some_unmarked (true ∷ bs) e =
    let c = sum_by-cons (λ b. cond {A = ℕ} b 1 0) true bs in
    let rest = some_unmarked bs (omega arith) in
    (suc rest.0, (omega (arith, rest.1.0), rest.1.1))

none_marked : (n : ℕ) → count_by (λ b. b) (replicate n false) ≡ 0
none_marked zero = refl
none_marked (suc n) = let c = sum_by-cons (λ b. cond {A = ℕ} b 1 0) false (replicate n false) in let ih = none_marked n in omega arith

pub few_marks : (r : Store) (marks : List Bool) (n : ℕ) → Marked r marks n → n ≤ r.used
few_marks r marks n M = omega (arith, M.size, M.count, count_by-le-length (λ b. b) marks)

pub mark_more : (r : Store) (marks : List Bool) (n x : ℕ) → Marked r marks n → x < r.used → marked marks x ≡ false → ready (marked marks) (form_of r x) ≡ true → Marked r (set marks x true) (n + 1)
unfolding deep
mark_more r marks n x M l e h =
    let len : x < length marks = omega (arith, M.size) in
    record {
      size = length-set marks x true ∙ M.size;
      count = omega (arith, M.count, count_mark marks x len e);
      sure = λ y t. subst (λ (k : ℕ). deep r k y ≡ true) (sym (add-one n)) (⊎_elim
          (λ (q : y ≡ x). subst (λ (z : ℕ). deep r (suc n) z ≡ true) (sym q) (ready_more (marked marks) (deep r n) (form_of r x) M.sure h))
          (λ ne. deep_more r n y (M.sure y (sym (get_or-set_other marks x y true false ne) ∙ t)))
          (cases_eq y x));
    }

-- a variable more is looked at, and nothing was marked
pub stuck_more : (r : Store) (marks news : List Bool) (i : ℕ) → news ≡ marks → Stuck r marks (i + 1) → (marked marks i ≡ false → ready (marked marks) (form_of r i) ≡ false) → Stuck r news i
stuck_more r marks news i q old here = subst (λ (bs : List Bool). Stuck r bs i) (sym q)
    (λ x g l e. ⊎_elim (λ (k : x ≡ i). subst (λ (z : ℕ). marked marks z ≡ false → ready (marked marks) (form_of r z) ≡ false) (sym k) here e) (λ ne. old x (omega arith) l e) (cases_eq x i))

pub grounds : (r : Store) (marks : List Bool) (n : ℕ) → Shaped r → Marked r marks n → n ≡ r.used → Grounds r true
grounds r marks n S M e x l = ⊎_elim
    (λ (k : x < r.used). deep_le r n 256 x (omega (arith, S.used)) (M.sure x (all_marked marks (omega (arith, M.size, M.count)) x (omega (arith, M.size)))))
    (λ (g : r.used ≤ x). free_deep r 255 x (free_past r x g))
    (cases_lt x r.used)

pub never_grounds : (r : Store) (marks : List Bool) (n : ℕ) → Shaped r → Marked r marks n → Stuck r marks 0 → (n ≡ r.used → ⊥) → (σ : Assignment) → Solves r σ → ⊥
never_grounds r marks n S M stuck ne σ o =
    let few = few_marks r marks n M in
    let lost = some_unmarked marks (omega (arith, M.size, M.count)) in
    never r S marks stuck σ o lost.0 (omega (arith, lost.1.0, M.size)) lost.1.1

-- nothing is marked at first
pub no_marks : (r : Store) (marks : List Bool) → marks ≡ replicate r.used false → Marked r marks 0
no_marks r marks e =
    let n = r.used in
    record {
      size = ap length e ∙ length-replicate n false;
      count = sym (ap (count_by (λ b. b)) e ∙ none_marked n);
      sure = λ x t. absurd (both_ways (marked marks x) (ap (λ (bs : List Bool). marked bs x) e ∙ ⊎_elim
          (λ l. get_or-replicate n x false false l)
          (λ g. get_or_past (replicate n false) x false (omega (arith, length-replicate n false))) (cases_lt x n)) t);
    }

-- few levels are enough
ready_within : (p q : ℕ → Bool) (n : ℕ) (f : Form) → Formed n f → ((x : ℕ) → x < n → p x ≡ true → q x ≡ true) → ready p f ≡ true → ready q f ≡ true
ready_within p q n Free F h e = refl
ready_within p q n (Number k) F h e = refl
ready_within p q n (Pair x y) F h e =
    let parts = and_parts (p x) (p y) e in
    and_from (q x) (q y) (h x F.0 parts.0) (h y F.1 parts.1)

module _ (r : Store) (S : Shaped r) where
  -- marks on all that has at most m levels, and on what has one level more below k
  record Covers (m k : ℕ) : Type 0 where
    marks : List Bool
    n : ℕ
    holds : Marked r marks n
    old : (x : ℕ) → x < r.used → deep r m x ≡ true → marked marks x ≡ true
    new : (x : ℕ) → x < k → x < r.used → deep r (suc m) x ≡ true → marked marks x ≡ true

  -- the same marks reach one variable further
  further : (m k : ℕ) (C : Covers m k) → (k < r.used → deep r (suc m) k ≡ true → marked C.marks k ≡ true) → Covers m (suc k)
  further m k C here = record {
    marks = C.marks;
    n = C.n;
    holds = C.holds;
    old = C.old;
    new = λ x l u d. ⊎_elim
        (λ (q : x ≡ k). subst (λ (z : ℕ). z < r.used → deep r (suc m) z ≡ true → marked C.marks z ≡ true) (sym q) here u d)
        (λ ne. C.new x (omega arith) u d)
        (cases_eq x k);
  }

  marked_also : (marks : List Bool) (k x : ℕ) → k < length marks → marked marks x ≡ true → marked (set marks k true) x ≡ true
  marked_also marks k x l e = ⊎_elim
      (λ (q : x ≡ k). ap (λ (z : ℕ). get_or (set marks k true) z false) q ∙ get_or-set_same marks k true false l)
      (λ ne. get_or-set_other marks k x true false ne ∙ e)
      (cases_eq x k)

  -- one mark more
  one_more : (m k : ℕ) (C : Covers m k) → k < r.used → marked C.marks k ≡ false → deep r (suc m) k ≡ true → Covers m k
  unfolding deep
  one_more m k C l e d =
      let len : k < length C.marks = omega (arith, C.holds.size) in
      let F = S.named k (omega (arith, S.used)) in
      record {
        marks = set C.marks k true;
        n = C.n + 1;
        holds = mark_more r C.marks C.n k C.holds l e (ready_within (deep r m) (marked C.marks) r.used (form_of r k) F C.old d);
        old = λ x u t. marked_also C.marks k x len (C.old x u t);
        new = λ x h u t. marked_also C.marks k x len (C.new x h u t);
      }

  marked_here : (marks : List Bool) (k : ℕ) → k < length marks → marked (set marks k true) k ≡ true
  marked_here marks k l = get_or-set_same marks k true false l

  extend : (m k : ℕ) → Covers m 0 → Covers m k
  unfolding one_more
  extend m zero C = C
  extend m (suc k) C =
      let D = extend m k C in
      ⊎_elim
      (λ t. further m k D (λ l d. t))
      (λ f. ⊎_elim
      (λ d. ⊎_elim
      (λ (l : k < r.used). further m k (one_more m k D l f d) (λ u t. marked_here D.marks k (omega (arith, D.holds.size))))
      (λ g. further m k D (λ l t. absurd (omega arith)))
      (cases_lt k r.used))
      (λ n. further m k D (λ l d. absurd (both_ways (deep r (suc m) k) n d)))
      (cases_Bool (deep r (suc m) k)))
      (cases_Bool (marked D.marks k))

  cover : (m : ℕ) → Covers m 0
  unfolding deep
  cover zero = record {
    marks = replicate r.used false;
    n = 0;
    holds = no_marks r (replicate r.used false) refl;
    old = λ x l d. absurd (both_ways false refl d);
    new = λ x l u d. absurd (omega arith);
  }
  cover (suc m) =
      let C = extend m r.used (cover m) in
      record { marks = C.marks; n = C.n; holds = C.holds; old = λ x l d. C.new x l l d; new = λ x l u d. absurd (omega arith) }

  -- however many levels there are, there are no more than variables in use
  pub few_levels : (m : ℕ) → ((x : ℕ) → x < 256 → deep r m x ≡ true) → Grounds r true
  few_levels m all x l = ⊎_elim
      (λ (k : x < r.used).
      let C = cover m in
      deep_le r C.n 256 x (omega (arith, few_marks r C.marks C.n C.holds, S.used)) (C.holds.sure x (C.old x k (all x l))))
      (λ (g : r.used ≤ x). free_deep r 255 x (free_past r x g))
      (cases_lt x r.used)

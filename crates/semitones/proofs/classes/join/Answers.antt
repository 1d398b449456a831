-- Why `join` answers and changes the record as the edge says.
use Rattle.std.proofs.Common.{◌≡◌, ℕ, ◌≤◌, ◌≢◌, ℤ, ◌-ℤ◌, neg_ℤ, sym, ap, ◌∙◌, subst, arith, w32, to_z, of_z}
use lib.Signed.{mag}
use Rattle.semitones.specs.declared.cells.Cell.{Cell}
use Rattle.semitones.specs.declared.cells.Edge.{Edge}
use Rattle.records.specs.Cells.{Reached}
use Rattle.semitones.specs.Cells.{Record, lone, by_of, Sound}
use Rattle.semitones.specs.Joins.{Same, Moved}
use Rattle.semitones.specs.laws.Bounds.{far}
use Rattle.semitones.proofs.Moving.{moved_as, moved_after}
use Rattle.semitones.proofs.Told.{plain, plain_back, small_back, zero_code, code_zero, held, refused, joined_up, joined_down}
use Rattle.semitones.proofs.classes.join.Goals as goal

-- what is read of a cell
roots : {c d : Cell} → c ≡ d → c.root ≡ d.root
roots = ap (λ (c : Cell). c.root)

bys : {c d : Cell} → c ≡ d → c.by ≡ d.by
bys = ap (λ (c : Cell). c.by)

-- more nodes are in use, each where it lay
same_reached : (r s : Record) (end : ℕ) → r.used ≤ 257 → end ≤ 257 → Reached lone r s end → Same r s
same_reached r s end few within R = record { few = omega (arith, R.used, few, within); cells = R.cells }

-- a distance as it is passed on
passed : (r : Record) → Sound r → (a : ℕ) (x : ℤ) → x ≡ by_of r a → to_z w32 (of_z w32 x) ≡ by_of r a
passed r S a x e =
    let near : mag x ≤ 257000 = subst (λ (z : ℤ). mag z ≤ 257000) (sym e) (far r S a) in
    plain x (omega arith) ∙ e

-- the distances of a record whose nodes lie where they did
far_same : (r s : Record) → Sound r → Same r s → (a : ℕ) → mag (by_of s a) ≤ 1000000
far_same r s S A a =
    let e : by_of s a ≡ by_of r a = ap (λ (c : Cell). c.by) (A.cells a) in
    let h : mag (by_of s a) ≤ 257000 = subst (λ (z : ℤ). mag z ≤ 257000) (sym e) (far r S a) in
    omega arith

-- the gap, by the distances that the record has
gap_of : (r : Record) (e : Edge) → Sound r → (x y g : ℤ) → x ≡ by_of r e.a → y ≡ by_of r e.b → g ≡ (to_z w32 (of_z w32 x) -ℤ to_z w32 (of_z w32 y)) -ℤ e.k → g ≡ (by_of r e.a -ℤ by_of r e.b) -ℤ e.k
gap_of r e S x y g p q h = h ∙ ap (λ (z : ℤ). (z -ℤ to_z w32 (of_z w32 y)) -ℤ e.k) (passed r S e.a x p) ∙ ap (λ (z : ℤ). (by_of r e.a -ℤ z) -ℤ e.k) (passed r S e.b y q)

pub gap-gap-requires : goal.gap-gap-requires
gap-gap-requires c =
    let near : (a : ℕ) (x : ℤ) → x ≡ by_of c.args.r.now a → mag (to_z w32 (of_z w32 x)) ≤ 257000 = λ a x e. subst (λ (z : ℤ). mag z ≤ 257000) (sym (passed c.args.r.now c.requires.sound a x e)) (far c.args.r.now c.requires.sound a) in
    record { far = (near c.args.e.now.a c.at-a.result.by (bys c.at-a.ensures), near c.args.e.now.b c.at-b.result.by (bys c.at-b.ensures)) }

pub returns-then-gap-eq0 : goal.returns-then-gap-eq0
returns-then-gap-eq0 c =
    let a = c.at-a in
    let b = c.at-b in
    let g = c.gap-gap in
    held c.args.r.now c.args.e.now c.requires.sound g.result (gap_of c.args.r.now c.args.e.now c.requires.sound a.result.by b.result.by g.result (bys a.ensures) (bys b.ensures) g.ensures.gap)
    (sym (roots a.ensures) ∙ c.if-a-b.true ∙ (roots b.ensures)) (zero_code g.result g.ensures.little c.if-gap-eq0.true)

pub returns-else-gap-eq0 : goal.returns-else-gap-eq0
returns-else-gap-eq0 c =
    let a = c.at-a in
    let b = c.at-b in
    let g = c.gap-gap in
    refused c.args.r.now c.args.e.now c.requires.sound g.result (gap_of c.args.r.now c.args.e.now c.requires.sound a.result.by b.result.by g.result (bys a.ensures) (bys b.ensures) g.ensures.gap)
    (sym (roots a.ensures) ∙ c.if-a-b.true ∙ (roots b.ensures)) (λ e. c.if-gap-eq0.false (code_zero g.result e))

pub shift-requires : goal.shift-requires
shift-requires c = record {
  few = (same_reached c.args.r.now c.reach.new.self _ c.requires.sound.few (omega arith) c.reach.ensures).few;
  far = far_same c.args.r.now c.reach.new.self c.requires.sound (same_reached c.args.r.now c.reach.new.self _ c.requires.sound.few (omega arith) c.reach.ensures);
  little = subst (λ (z : ℤ). mag z ≤ 1000000) (sym (plain c.gap-gap.result (omega (arith, c.gap-gap.ensures.little)))) (omega (arith, c.gap-gap.ensures.little));
  inside = omega (arith, (roots c.at-b.ensures), c.requires.sound.low c.args.e.now.b, c.reach.ensures.used, c.max.ensures);
}

pub shift-requires-else-a-b-2 : goal.shift-requires-else-a-b-2
shift-requires-else-a-b-2 c = record {
  few = (same_reached c.args.r.now c.reach.new.self _ c.requires.sound.few (omega arith) c.reach.ensures).few;
  far = far_same c.args.r.now c.reach.new.self c.requires.sound (same_reached c.args.r.now c.reach.new.self _ c.requires.sound.few (omega arith) c.reach.ensures);
  little = subst (λ (z : ℤ). mag z ≤ 1000000) (sym (plain_back c.gap-gap.result c.gap-gap.ensures.little)) (small_back c.gap-gap.result c.gap-gap.ensures.little);
  inside = omega (arith, (roots c.at-a.ensures), c.requires.sound.low c.args.e.now.a, c.reach.ensures.used, c.max.ensures);
}

-- the class is moved in the record as it was passed, too
moved_since : (r s t : Record) (from to : ℕ) (x g : ℤ) → Same r s → x ≡ g → Moved from to x s t → Moved from to g r t
moved_since r s t from to x g A e M = moved_after from to g r s t A (moved_as from to x g s t e M)

pub returns-then-a-b-2 : goal.returns-then-a-b-2
returns-then-a-b-2 c =
    let a = c.at-a in
    let b = c.at-b in
    let g = c.gap-gap in
    joined_up c.args.r.now c.args.e.now c.requires.sound g.result (gap_of c.args.r.now c.args.e.now c.requires.sound a.result.by b.result.by g.result (bys a.ensures) (bys b.ensures) g.ensures.gap)
    c.shift.new.r b.result.root a.result.root (roots a.ensures) (roots b.ensures) c.if-a-b-2.true
    (moved_since c.args.r.now c.reach.new.self c.shift.new.r b.result.root a.result.root _ g.result (same_reached c.args.r.now c.reach.new.self _ c.requires.sound.few (omega arith) c.reach.ensures) (plain g.result (omega (arith, g.ensures.little))) c.shift.ensures)

pub returns-else-a-b-2 : goal.returns-else-a-b-2
returns-else-a-b-2 c =
    let a = c.at-a in
    let b = c.at-b in
    let g = c.gap-gap in
    let s = c.shift-else-a-b-2.new.r in
    let ne : a.result.root ≢ b.result.root = c.if-a-b.false in
    joined_down c.args.r.now c.args.e.now c.requires.sound g.result (gap_of c.args.r.now c.args.e.now c.requires.sound a.result.by b.result.by g.result (bys a.ensures) (bys b.ensures) g.ensures.gap)
    s a.result.root b.result.root (roots a.ensures) (roots b.ensures) (omega (arith, c.if-a-b-2.false))
    (moved_since c.args.r.now c.reach.new.self s a.result.root b.result.root _ (neg_ℤ g.result) (same_reached c.args.r.now c.reach.new.self _ c.requires.sound.few (omega arith) c.reach.ensures) (plain_back g.result g.ensures.little) c.shift-else-a-b-2.ensures)

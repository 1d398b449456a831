use Rattle.std.proofs.Common.{ℕ, ◌-◌, ◌≤◌, List, [], ◌∷◌, ◌++◌, nat_abs, decimal, sym, ap, ◌∙◌, subst, arith, rules, w32}
use Rattle.std.specs.Fmt.{signed_decimal}
use Rattle.std.proofs.lemmas.Int.{to_z-of_z}
use Rattle.trees.specs.Stores.{Formed}
use Rattle.trees.specs.Values.{value}
use Rattle.trees.specs.laws.Shapes.{formed}
use Rattle.trees.specs.laws.Depths.{deep_step}
use Rattle.texts.specs.Pieces.{Adds}
use Rattle.trees.specs.Texts.{show}
use Rattle.texts.proofs.Laying.{adds_then, adds_after, adds_lost}
use Rattle.trees.proofs.Showing.{show_free, show_number, show_pair, sides_below, small_fits}
use Rattle.trees.proofs.text.+write.Goals as goal

pub returns-then-overruns : goal.returns-then-overruns
returns-then-overruns t c = adds_lost (show (value c.args.r.now c.args.depth c.args.x)) c.args.text.now (search rules)

pub overflow_sub-depth : goal.overflow_sub-depth
overflow_sub-depth t c = omega (arith, (deep_step c.args.r.now c.args.depth c.args.x c.requires.levels).0)

pub write-requires : goal.write-requires
write-requires t c =
    let r = c.args.r.now in
    let n = c.args.depth in
    let x = c.args.x in
    let sides = sides_below r n x c.in-Pair.a c.in-Pair.b c.requires.shaped c.requires.within c.requires.levels (sym c.known.ensures ∙ c.in-Pair.is) in
    (omega (arith, (deep_step r n x c.requires.levels).0, c.decreases), (c.requires.shaped, sides.0))

pub overflow_sub-depth-in-Pair : goal.overflow_sub-depth-in-Pair
overflow_sub-depth-in-Pair t c = omega (arith, (deep_step c.args.r.now c.args.depth c.args.x c.requires.levels).0)

pub write-requires-in-Pair : goal.write-requires-in-Pair
write-requires-in-Pair t c =
    let r = c.args.r.now in
    let n = c.args.depth in
    let x = c.args.x in
    let sides = sides_below r n x c.in-Pair.a c.in-Pair.b c.requires.shaped c.requires.within c.requires.levels (sym c.known.ensures ∙ c.in-Pair.is) in
    (omega (arith, (deep_step r n x c.requires.levels).0, c.decreases), (c.requires.shaped, sides.1))

pub returns-in-Free : goal.returns-in-Free
returns-in-Free t c =
    let r = c.args.r.now in
    let is = sym c.known.ensures ∙ c.in-Free.is in
    subst (λ (ds : List ℕ). Adds ds c.args.text.now c.put_after.new.self)
    (sym (show_free r c.args.depth c.args.x c.requires.levels is ∙ ap (λ (n : ℕ). 95 ∷ decimal n) (sym c.root_of.ensures))) c.put_after.ensures

pub returns-in-Number : goal.returns-in-Number
returns-in-Number t c =
    let k = c.in-Number.k in
    let r = c.args.r.now in
    let is = sym c.known.ensures ∙ c.in-Number.is in
    let small : nat_abs k ≤ 1000 = subst (Formed 256) is (formed r c.requires.shaped c.args.x c.requires.within) in
    subst (λ (ds : List ℕ). Adds ds c.args.text.now c.put_signed.new.self)
    (ap signed_decimal (to_z-of_z w32 k (small_fits k small)) ∙ sym (show_number r c.args.depth c.args.x c.requires.levels k is small)) c.put_signed.ensures

pub returns-in-Pair : goal.returns-in-Pair
returns-in-Pair t c =
    let r = c.args.r.now in
    let n = c.args.depth in
    let is = sym c.known.ensures ∙ c.in-Pair.is in
    let u = show (value r (n - 1) c.in-Pair.a) in
    let v = show (value r (n - 1) c.in-Pair.b) in
    let end = c.put-in-Pair-2.new.self in
    subst (λ (ds : List ℕ). Adds ds c.args.text.now end) (sym (show_pair r n c.args.x c.requires.levels c.in-Pair.a c.in-Pair.b is))
    (adds_after 40 (u ++ (46 ∷ (v ++ (41 ∷ [])))) c.args.text.now c.put.new.self end c.put.ensures
    (adds_then u (46 ∷ (v ++ (41 ∷ []))) c.put.new.self c.write.new.text end c.write.ensures
    (adds_after 46 (v ++ (41 ∷ [])) c.write.new.text c.put-in-Pair.new.self end c.put-in-Pair.ensures
    (adds_then v (41 ∷ []) c.put-in-Pair.new.self c.write-in-Pair.new.text end c.write-in-Pair.ensures c.put-in-Pair-2.ensures))))

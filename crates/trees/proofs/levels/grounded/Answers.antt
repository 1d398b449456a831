use Rattle.std.proofs.Common.{◌≡◌, ℕ, ◌-◌, false, take, replicate, ap, ◌∙◌, arith}
use Rattle.std.proofs.lemmas.List.{take-replicate}
use Rattle.trees.proofs.Grounding.{no_marks}
use Rattle.trees.proofs.levels.grounded.Goals as goal

pub marks_all-requires : goal.marks_all-requires
marks_all-requires c =
    let r = c.args.r.now in
    let u = r.used in
    let e : u - 0 ≡ u = omega arith in
    record {
      shaped = c.requires;
      marked = no_marks r (take (u - 0) (replicate 256 false)) (take-replicate (u - 0) 256 false (omega (arith, c.requires.used)) ∙ ap (λ (n : ℕ). replicate n false) e);
    }

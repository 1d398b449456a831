-- The edges of the constraints of two variables.
use Rattle.std.proofs.Common.{◌≡◌, ℕ, ◌+◌, map, ℤ, ◌+ℤ◌, sym, ap, ◌∙◌, add-one, rules, w32}
use lib.IntN.{+ℤ_idr}
use Rattle.std.proofs.lemmas.Int.{to_z-of_z}
use Rattle.bank.specs.declared.Vars.{Vars}
use Rattle.bank.specs.declared.Vars.TheVariants.{Two}
use Rattle.bank.specs.Conditions.{listed}
use Rattle.bank.specs.Kinds.{Assignment}
use Rattle.semitones.specs.Whole.{number_of, holding}
use Rattle.std.specs.Ordering.{int_eq}
use Rattle.semitones.specs.Cells.{node}
use Rattle.semitones.proofs.edges.edge.Goals as goal

node_suc : (σ : Assignment) (x : ℕ) → number_of (σ x) ≡ node σ (x + 1)
node_suc σ x = ap (node σ) (sym (add-one x))

-- what a code says of two variables, and of their nodes
of_two : (σ : Assignment) (code n : ℕ) (k : ℤ) (vs : Vars) (x y : ℕ) → code ≡ n → vs ≡ Two x y → holding code k (map σ (listed vs)) ≡ holding n k (map σ (listed (Two x y)))
of_two σ code n k vs x y e f = ap (λ (c : ℕ). holding c k (map σ (listed vs))) e ∙ ap (λ (v : Vars). holding n k (map σ (listed v))) f

pub returns-in-0-Two : goal.returns-in-0-Two
returns-in-0-Two c =
    let x = c.in-0-Two.x in
    let y = c.in-0-Two.y in
    record {
      formed = search rules;
      within = search rules;
      holds = λ σ. of_two σ _ 0 c.args.c.now.k _ x y c.in-0-Two.is-0 c.in-0-Two.is-1
          ∙ ap (λ (z : ℤ). int_eq z (number_of (σ y))) (node_suc σ x) ∙ ap (int_eq (node σ (x + 1))) (node_suc σ y ∙ sym (+ℤ_idr (node σ (y + 1))));
    }

pub returns-in-3-Two : goal.returns-in-3-Two
returns-in-3-Two c =
    let x = c.in-3-Two.x in
    let y = c.in-3-Two.y in
    let k = c.args.c.now.k in
    record {
      formed = search rules;
      within = search rules;
      holds = λ σ. of_two σ _ 3 k _ x y c.in-3-Two.is-0 c.in-3-Two.is-1
          ∙ ap (λ (z : ℤ). int_eq z (number_of (σ y) +ℤ k)) (node_suc σ x) ∙ ap (λ (z : ℤ). int_eq (node σ (x + 1)) (z +ℤ k)) (node_suc σ y)
          ∙ ap (λ (z : ℤ). int_eq (node σ (x + 1)) (node σ (y + 1) +ℤ z)) (sym (to_z-of_z w32 k (search rules)));
    }

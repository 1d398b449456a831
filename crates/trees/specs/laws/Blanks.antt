-- A store that has met no variable, and one that says what another says. Assumes nothing.
use Rattle.std.proofs.Common.{◌≡◌, ℕ, zero, suc, ◌≤◌, true, sym, refl, ap, ◌∙◌, subst, arith}
use Rattle.bank.specs.Kinds.{Assignment, all_admitted}
use Rattle.records.specs.Cells.{Alike as Copy}
use Rattle.trees.specs.declared.cells.Form.{Form}
use Rattle.trees.specs.Kind.{trees}
use Rattle.trees.specs.Stores.{Store, lone, root_of_lem, Fits, solves, Formed}
use Rattle.trees.specs.Values.{Sound}
use Rattle.trees.specs.laws.Solves.{solves_from}
use Rattle.trees.specs.laws.Shapes.{root_past, free_past, alike_cells, sound_alike, solves_alike}
use Rattle.trees.specs.laws.Sounds.{sound_out}
use Rattle.trees.specs.laws.Depths.{free_deep}

module _ (r : Store) (none : r.used ≡ 0) where
  past : (a : ℕ) → r.used ≤ a
  past a = omega arith

  pub blank_sound : Sound r
  blank_sound = record {
    shaped = record {
      used = omega arith;
      low = λ a l. omega (arith, root_past r a (past a));
      top = λ a l. ap (root_of_lem r) (root_past r a (past a));
      named = λ a l. subst (Formed r.used) (sym (free_past r a (past a))) tt;
    };
    levels = λ x l. free_deep r 255 x (free_past r x (past x));
  }

  every : (σ : Assignment) (n : ℕ) → all_admitted trees n σ ≡ true
  unfolding all_admitted
  every σ zero = refl
  every σ (suc n) = every σ n

  pub blank_solves : (σ : Assignment) → solves r σ ≡ all_admitted trees 256 σ
  blank_solves σ = solves_from r σ (record {
    same = λ a l. ap σ (sym (root_past r a (past a)));
    form = λ a l. subst (λ (f : Form). Fits σ f (σ a)) (sym (free_past r a (past a))) tt;
  }) ∙ sym (every σ 256)

-- what `Sense` asks of the cells
pub few_used : (r : Store) → ∥ Sound r ∥₁ → r.used ≤ 256
few_used r S = (sound_out r S).shaped.used

pub begun : (r : Store) → r.used ≡ 0 → Sound r × ((σ : Assignment) → solves r σ ≡ all_admitted trees 256 σ)
begun r none = (blank_sound r none, blank_solves r none)

pub followed : (r s : Store) → Copy lone r s → ∥ Sound r ∥₁ → Sound s × ((σ : Assignment) → solves s σ ≡ solves r σ)
followed r s A S =
    let out = sound_out r S in
    let like = alike_cells r s A.cells in
    (sound_alike r s like (omega (arith, A.used)) (omega (arith, A.used, out.shaped.used)) out, solves_alike r s like)

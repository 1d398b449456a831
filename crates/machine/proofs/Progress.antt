-- Where it can be told whether conditions have a solution, each tree has a step. Assumes nothing.
use Rattle.std.proofs.Common.{◌≡◌, ℕ, zero, suc, ◌≤◌, ◌⊎◌, List, [], ◌∷◌, ◌++◌, Some, None, Option, refl, ap, inl, inr, arith}
use Rattle.bank.specs.Kinds.{Condition, Kind, Assignment, Solves}
use Rattle.book.specs.Language.{tell, conj, disj, fresh, call, Rule, Rules}
use Rattle.machine.specs.Machine.{Answer, Tree, State, leaf, branch, chain, Step, Entry, Run, begin, next, told_at}
use Rattle.machine.specs.Machine.{step_tell_lem, step_fail, step_conj, step_disj, step_fresh, step_call, step_branch, step_chain}
use Rattle.machine.specs.Theorems.{GoesOn}
use Rattle.machine.proofs.Lists.{some_not_none}

module _ (K : Kind) (rules : Rules) (decide : (n : ℕ) (cs : List Condition) → Dec ((σ : Assignment) × Solves K n cs σ)) where
  a_step : (T : Tree) → (o : Option Answer) × (S : State) × Step K rules T o S
  a_step (leaf (tell code k slots) f n told ch) =
      elim (decide n (told ++ (told_at code k slots f ∷ []))) [
        | yes h ↦ (_, _, step_tell_lem h.0 h.1)
        | no h ↦ (_, _, step_fail (λ σ y. h (σ, y)))
      ]
  a_step (leaf (conj g h) f n told ch) = (_, _, step_conj)
  a_step (leaf (disj g h) f n told ch) = (_, _, step_disj)
  a_step (leaf (fresh g) f n told ch) = (_, _, step_fresh)
  a_step (leaf (call r slots) f n told ch) = (_, _, step_call)
  a_step (branch A B) = let s = a_step A in (_, _, step_branch s.2)
  a_step (chain A g f) = let s = a_step A in (_, _, step_chain s.2)

  a_run :
      (rule : Rule) (t : ℕ)
      → (u : ℕ) × (S : State) × (es : List Entry) × Run K rules rule u S es × ((u ≡ t) ⊎ ((u ≤ t) × (S ≡ None)))
  a_run rule zero = (_, _, _, begin, inl refl)
  a_run rule (suc t) = let r = a_run rule t in one_more r.1 r.3 r.4
    where
      one_more :
          {u : ℕ} (S : State) {es : List Entry} → Run K rules rule u S es → (u ≡ t) ⊎ ((u ≤ t) × (S ≡ None))
          → (u : ℕ) × (S : State) × (es : List Entry) × Run K rules rule u S es × ((u ≡ suc t) ⊎ ((u ≤ suc t) × (S ≡ None)))
      one_more None r (inl e) = (_, _, _, r, inr (omega arith, refl))
      one_more None r (inr h) = (_, _, _, r, inr (omega arith, refl))
      one_more (Some T) r (inl e) = (_, _, _, next r (a_step T).2, inl (ap suc e))
      one_more (Some T) r (inr h) = absurd (some_not_none T h.1)

pub goes_on : GoesOn
goes_on K rules rule decide t = a_run K rules decide rule t

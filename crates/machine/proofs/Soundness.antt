-- Each answer of a run waited in the posed rule, so it is that of a shape; a solution of it makes the shape a derivation. Assumes nothing.
use Rattle.std.proofs.Common.{ℕ, List, [], length, Some, None, sym, refl, ap, ◌∙◌, subst}
use lib.ListN.{length-map}
use Rattle.bank.specs.Kinds.{Value, Kind, Solves}
use Rattle.book.specs.Language.{Rule, Rules, WellFormed, Each}
use Rattle.machine.specs.Machine.{Answer, State, Entry, Run, begin, next, posed, upto}
use Rattle.machine.specs.Derivations.{AllAdmitted, solutions, Occurs}
use Rattle.machine.specs.Theorems.{RuleFits, Derived, Sound}
use Rattle.book.proofs.Misfits.{each_append}
use Rattle.machine.proofs.Lists.{each_map}
use Rattle.machine.proofs.Shapes.{leads_choices}
use Rattle.machine.proofs.Solutions.{solves_back}
use Rattle.machine.proofs.Waiting.{from, Waits, at_leaf, given, Remains, still, waited_given, waited_left}
use Rattle.machine.proofs.Values.{derive}
use Rattle.machine.proofs.Posed.{upto_length, posed_admitted}

-- The answer waits in the posed rule.
abbrev Posed : Rules → Rule → Answer → Type 0
Posed rules rule a = (w : ℕ) × Waits rules (posed rule) a w

module _ {K : Kind} {rules : Rules} {rule : Rule} where
  -- what waits at the end of a run waited in the posed rule
  run_back :
      {t : ℕ} {S : State} {es : List Entry} {a : Answer} {w : ℕ}
      → Run K rules rule t S es → Remains rules S a w → Posed rules rule a
  run_back begin (still i) = (_, i)
  run_back (next r st) m = run_back r (still (waited_left st m).1)

  -- and so did each answer
  answers_posed : {t : ℕ} {S : State} {es : List Entry} → Run K rules rule t S es → Each (λ e. Posed rules rule e.answer) es
  answers_posed begin = tt
  answers_posed (next {o = None} r st) = answers_posed r
  answers_posed (next {es = es} {o = Some a} r st) =
      each_append (λ e. Posed rules rule e.answer) es _ (answers_posed r) (run_back r (still (waited_given (given refl) st).1), tt)

-- a solution of an answer that waits in the posed rule is a derivation
derived :
    (K : Kind) (rules : Rules) (rule : Rule) → WellFormed rules → RuleFits rules rule
    → (a : Answer) (w : ℕ) → Waits rules (posed rule) a w → (vs : List Value) → Occurs rule.params (solutions K a) vs → Derived K rules rule a.choices vs
derived K rules rule wf fits a w (at_leaf s e l) vs occ =
    let p = rule.params in
    let start = from p [] [] in
    let σ = occ.0 in
    let here = subst (λ (b : Answer). Solves K b.n b.told σ) (sym e) occ.1 in
    let d = derive K rules wf s σ (upto p) start p vs fits (upto_length p) occ.2 here in
    record {
      posable = (
        sym (ap (λ (us : List Value). length us) occ.2) ∙ length-map (upto p) σ ∙ upto_length p,
        subst (λ (us : List Value). AllAdmitted K us) occ.2 (posed_admitted K p σ (solves_back K σ s (upto p) start here)),
      );
      derivation = d.0;
      its_choices = d.1 ∙ sym (leads_choices s (upto p) start) ∙ ap (λ (b : Answer). b.choices) e;
    }

pub sound : Sound
sound K rules rule wf fits t S es r =
    each_map _ _ (λ e i. derived K rules rule wf fits e.answer i.0 i.1) es (answers_posed r)

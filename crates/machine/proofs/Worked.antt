-- The examples' runs and derivations, written out. Assumes nothing.
use Rattle.std.proofs.Common.{ℕ, true, false, List, [], ◌∷◌, map, pos, is_some, Option, refl, arith}
use Rattle.book.specs.Language.{Rules, rule_at}
use Rattle.bank.specs.Kinds.{Assignment, number, all_admitted}
use Rattle.machine.specs.Machine.{Answer, Tree, State, Step, Entry, Runs, begin, next}
use Rattle.machine.specs.Machine.{step_tell_lem, step_conj, step_disj, step_call, step_branch, step_chain}
use Rattle.machine.specs.Derivations.{told_true, both, by_left, by_right, by_rule}
use Rattle.machine.specs.Examples.{plain, two_ways, both_ways, again, idle, After, TwoWays, BothWays, Again, Idle}

-- Every variable is the number k.
abbrev pub all : ℕ → Assignment
all k v = number (pos k)

-- what a run shows
pub shown :
    {step : Tree → Option Answer → State → Type 0} (rules : Rules) {t : ℕ} {S : State} {es : List Entry}
    → Runs step (rule_at rules 0) t S es → After step rules t (map (λ e. e.step) es) (is_some S)
shown rules r = record { state = _; answers = _; run = r; at = refl; left = refl }

two_ways_runs : After (Step plain two_ways) two_ways 3 (2 ∷ 3 ∷ []) false
unfolding all_admitted
two_ways_runs =
    shown two_ways (next (next (next begin step_disj) (step_branch (step_tell_lem (all 60) refl))) (step_tell_lem (all 67) refl))

pub both_ways_runs : After (Step plain both_ways) both_ways 6 (4 ∷ 6 ∷ []) false
unfolding all_admitted
both_ways_runs =
    let split = next (next begin step_conj) (step_chain step_disj) in
    let first = next (next split (step_chain (step_branch (step_tell_lem (all 60) refl)))) (step_branch (step_tell_lem (all 60) refl)) in
    shown both_ways (next (next first (step_chain (step_tell_lem (all 67) refl))) (step_tell_lem (all 67) refl))

pub again_once : After (Step plain again) again 3 (3 ∷ []) true
unfolding all_admitted
again_once =
    shown again (next (next (next begin step_disj) (step_branch step_call)) (step_branch (step_tell_lem (all 5) refl)))

again_runs : After (Step plain again) again 9 (3 ∷ 6 ∷ 9 ∷ []) true
unfolding all_admitted
again_runs =
    let once = next (next (next begin step_disj) (step_branch step_call)) (step_branch (step_tell_lem (all 5) refl)) in
    let twice = next (next (next once step_disj) (step_branch step_call)) (step_branch (step_tell_lem (all 5) refl)) in
    shown again (next (next (next twice step_disj) (step_branch step_call)) (step_branch (step_tell_lem (all 5) refl)))

pub two_ways_holds : TwoWays
two_ways_holds =
    record {
      well_formed = (((omega arith, tt), (omega arith, tt)), tt);
      answers = two_ways_runs;
      first = record { derivation = by_left (told_true refl); its_weight = refl };
      second = record { derivation = by_right (told_true refl); its_weight = refl };
    }

pub both_ways_holds : BothWays
both_ways_holds =
    record {
      well_formed = ((((omega arith, tt), (omega arith, tt)), (omega arith, (omega arith, tt))), tt);
      answers = both_ways_runs;
      first = record { derivation = both (by_left (told_true refl)) (told_true refl); its_weight = refl };
      second = record { derivation = both (by_right (told_true refl)) (told_true refl); its_weight = refl };
    }

pub again_holds : Again
again_holds =
    record {
      well_formed = (((omega arith, refl, (omega arith, tt)), (omega arith, tt)), tt);
      answers = again_runs;
      first = record { derivation = by_right (told_true refl); its_weight = refl };
      second = record { derivation = by_left (by_rule (by_right (told_true refl))); its_weight = refl };
    }

pub idle_holds : Idle
idle_holds =
    record {
      well_formed = ((omega arith, refl, tt), tt);
      answers = shown idle (next (next (next (next (next (next begin step_call) step_call) step_call) step_call) step_call) step_call);
    }

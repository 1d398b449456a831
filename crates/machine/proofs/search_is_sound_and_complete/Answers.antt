-- The theorems. Assumes nothing.
use Rattle.machine.proofs.search_is_sound_and_complete.Goals as goal
use Rattle.machine.proofs.Rules.{own_rules_fit_lem}
use Rattle.machine.proofs.Determinism.{deterministic, dated}
use Rattle.machine.proofs.Completeness.{complete}
use Rattle.machine.proofs.Soundness.{sound}
use Rattle.machine.proofs.Progress.{goes_on}

pub returns : goal.returns
returns c = record { own_rules_fit = own_rules_fit_lem; deterministic = deterministic; complete = complete; sound = sound; dated = dated; goes_on = goes_on }

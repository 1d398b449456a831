-- The rules of a well-formed book fit it. Assumes nothing.
use Rattle.machine.specs.Theorems.{RuleFits, OwnRulesFit}
use Rattle.machine.proofs.Lists.{each_get_d}

pub own_rules_fit_lem : OwnRulesFit
own_rules_fit_lem rules wf r h = each_get_d (RuleFits rules) rules r _ h wf

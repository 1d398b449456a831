use Rattle.std.proofs.Common.{sym, refl, ◌∙◌}
use Rattle.trees.specs.laws.Shapes.{solves_alike}
use Rattle.trees.proofs.tells.tell_copied.Goals as goal

pub returns-then-alike : goal.returns-then-alike
returns-then-alike c = record {
  same = refl;
  always = λ σ. sym (solves_alike c.args.r.now c.narrow.new.r (c.if-alike.ensures refl) σ) ∙ c.in_ok-narrow.ensures.solutions σ;
}

pub returns : goal.returns
returns c = c.in_ok-narrow.ensures

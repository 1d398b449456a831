use Rattle.std.proofs.Common.{rules}
use Rattle.texts.proofs.Laying.{adds_after}
use Rattle.texts.proofs.Writer.put_after.Goals as goal

pub returns : goal.returns
returns c = search (rules, adds_after)

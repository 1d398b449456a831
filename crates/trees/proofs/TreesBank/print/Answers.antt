-- Why `print` writes the text, or zeroes the part.
use Rattle.std.proofs.Common.{length}
use Rattle.records.specs.Vacant.{vacant}
use Rattle.trees.proofs.TreesBank.print.Goals as goal

pub returns : goal.returns
returns c = c.print.ensures (length (vacant c.args.self.now.vacancies))

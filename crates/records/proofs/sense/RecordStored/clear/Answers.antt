use Rattle.std.proofs.Common.{refl}
use Rattle.records.proofs.sense.RecordStored.clear.Goals as goal

pub returns-clause-all : goal.returns-clause-all
returns-clause-all g c = (g.met.C.Sense.begins _ refl).1

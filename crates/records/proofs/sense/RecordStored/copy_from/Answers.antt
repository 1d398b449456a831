use Rattle.records.proofs.sense.RecordStored.copy_from.Goals as goal

pub returns-clause-same : goal.returns-clause-same
returns-clause-same g c = (g.met.C.Sense.follows _ _ c.take_over.ensures c.requires).1

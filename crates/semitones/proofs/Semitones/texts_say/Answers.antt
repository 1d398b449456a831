-- Why the texts say what they say.
use Rattle.std.proofs.Common.{length}
use Rattle.records.specs.Vacant.{vacant}
use Rattle.semitones.specs.laws.Laws.{no_slot, sound_at}
use Rattle.semitones.proofs.Saying.{says_at}
use Rattle.semitones.proofs.Semitones.texts_say.Goals as goal

pub returns : goal.returns
returns c s x l h =
    let b = c.args.self.now in
    says_at b.slots.now (length (vacant b.vacancies)) s x (sound_at b.slots.now s l no_slot b.kept) l h

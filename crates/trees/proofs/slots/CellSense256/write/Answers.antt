use Rattle.trees.specs.Values.{given}
use Rattle.trees.specs.laws.Sounds.{sound_out}
use Rattle.trees.proofs.slots.CellSense256.write.Goals as goal

pub write-requires : goal.write-requires
write-requires c =
    let S = sound_out c.args.r.now c.requires.sound in
    record { shaped = S.shaped; within = c.requires.within; levels = S.levels c.args.var c.requires.within }

pub returns : goal.returns
unfolding given
returns c = c.write.ensures

use Rattle.trees.proofs.text.+write.Given as goal

abbrev pub decreases-write : goal.decreases-write
decreases-write l = l.depth

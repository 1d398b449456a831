-- The first 1,024 bytes are zero.
use Rattle.std.proofs.Common.{◌++◌, drop, replicate, ap, ◌∙◌}
use Rattle.std.proofs.lemmas.List.{length-take-le}
use Rattle.answer_line.proofs.Line.clear.Goals as goal

pub returns-clause-cleared : goal.returns-clause-cleared
returns-clause-cleared g c =
    let bytes = c.args.self.now.bytes.now in
    ap (λ t. t ++ drop 1024 bytes)
    (c.fill.ensures.after (λ y e. e) ∙ ap (λ n. replicate n 0) (length-take-le 1024 bytes c.args.self.now.room))

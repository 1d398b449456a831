use Rattle.std.proofs.Common.{sym, ap, ◌∙◌}
use Rattle.std.specs.Result.{is_ok}
use Rattle.book.proofs.Gathering.{gathers_ok}
use Rattle.book.proofs.read.gather.Goals as goal

pub loop-line-preserved : goal.loop-line-preserved
loop-line-preserved c =
    let l = c.loop-line in
    let told = c.take_line.ensures in
    gathers_ok c.args.text.now l.gathering l.fields c.next_line.new.self c.in-Some.line l.invariant c.in-Some.ensures.does c.take_line.result c.take_line.new.self c.take_line.new.fields (sym c.map_err.ensures.variant ∙ ap is_ok c.in_ok-map_err.was) told.does told.behind told.number

use Rattle.std.proofs.Common.{sym}
use Rattle.search.proofs.Posing.{some_of}
use Rattle.search.proofs.Search.check_run.Goals as goal

pub returns-then-is_some : goal.returns-then-is_some
returns-then-is_some g c = rw (← c.self.view_is) (c.if-not-self.false, some_of _ (sym c.if-is_some.ensures))

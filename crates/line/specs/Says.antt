-- What the code's values stand for. Assumes nothing.
--
--   says   what a line says
use Rattle.line.specs.declared.Line.{Line}
use Rattle.line.specs.declared.Line.TheVariants.{Rule, Tell, And, Or, New, Call}
use Rattle.row.specs.Shorts.{items}
use Rattle.line.specs.Statements.{Statement, a_rule, a_tell, an_and, an_or, a_new, a_call}

abbrev pub says : Line → Statement
says (Rule p) = a_rule p
says (Tell t) = a_tell t.code t.k (items t.slots)
says And = an_and
says Or = an_or
says New = a_new
says (Call c) = a_call c.rule (items c.slots)

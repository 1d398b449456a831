-- One node more from a line, when the goals below it stand. Only private functions cite this file. Assumes nothing.
--
--   formed   the node's form, with the goals that waited first as its parts
--   unused   the goals that still wait for one above them
use Rattle.std.specs.Prelude.{ℕ, List, [], ◌∷◌}
use Rattle.line.specs.declared.Line.{Line}
use Rattle.line.specs.declared.Line.TheVariants.{Rule, Tell as TellLine, And as AndLine, Or as OrLine, New as NewLine, Call as CallLine}
use Rattle.book.specs.declared.Form.{Form}
use Rattle.book.specs.declared.Form.TheVariants.{Tell, And, Or, New, Call}

abbrev pub head : List ℕ → ℕ
head [] = 0
head (i ∷ is) = i

abbrev pub tail : List ℕ → List ℕ
tail [] = []
tail (i ∷ is) = is

abbrev pub formed : List ℕ → Line → Form
formed roots (Rule p) = New 0
formed roots (TellLine t) = Tell t
formed roots AndLine = And (head roots) (head (tail roots))
formed roots OrLine = Or (head roots) (head (tail roots))
formed roots NewLine = New (head roots)
formed roots (CallLine c) = Call c

abbrev pub unused : List ℕ → Line → List ℕ
unused roots (Rule p) = roots
unused roots (TellLine t) = roots
unused roots AndLine = tail (tail roots)
unused roots OrLine = tail (tail roots)
unused roots NewLine = tail roots
unused roots (CallLine c) = roots

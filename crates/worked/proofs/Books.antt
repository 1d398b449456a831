-- The books that the texts of the table are read as. Assumes nothing.
use Rattle.std.proofs.Common.{◌≡◌, [], ◌∷◌, pos, codes, refl}
use Prim.Native.String.{String}
use Rattle.std.specs.Fmt.{digits}
use Rattle.numeral.specs.Reads.{as_number, as_negative, as_signed}
use Rattle.book.specs.declared.refusal.Cause.TheVariants.{TextEnds}
use Rattle.book.specs.Language.{tell, disj, fresh, call, Rules}
use Rattle.book.specs.Reading.{reading, book}
use Rattle.book.proofs.Law.{reads_only}
use Rattle.machine.specs.Examples.{both_ways as both_ways_rules, again as again_rules}
use Rattle.worked.specs.Rows.{Reads, Refused, ReadAlike}
use Rattle.worked.specs.Table.{two_ways, two_ways_bare, two_ways_cut, both_ways, again, inside, fifth, idle}

-- what is read as a book is the text of one
as_book : (text : String) (rules : Rules) → reading (codes text) ≡ book rules → Reads text rules
as_book text rules e = let law = reads_only (codes text) rules e in record { read = e; is_book = law.0; written = law.1 }

abbrev two_ways_rules : Rules
two_ways_rules = record { params = 1; goal = disj (tell 1 (pos 60) (0 ∷ [])) (tell 1 (pos 67) (0 ∷ [])) } ∷ []

abbrev inside_rules : Rules
inside_rules = record { params = 1; goal = fresh (tell 2 (pos 0) (0 ∷ 0 ∷ 1 ∷ [])) } ∷ []

abbrev fifth_rules : Rules
fifth_rules = record { params = 2; goal = tell 3 (pos 7) (1 ∷ 0 ∷ []) } ∷ []

abbrev idle_rules : Rules
idle_rules = record { params = 0; goal = call 0 [] } ∷ []

pub two_ways_reads : Reads two_ways two_ways_rules
unfolding digits as_number as_negative as_signed
two_ways_reads = as_book two_ways two_ways_rules refl

pub both_ways_reads : Reads both_ways both_ways_rules
unfolding digits as_number as_negative as_signed
both_ways_reads = as_book both_ways both_ways_rules refl

pub again_reads : Reads again again_rules
unfolding digits as_number as_negative as_signed
again_reads = as_book again again_rules refl

pub inside_reads : Reads inside inside_rules
unfolding digits as_number as_negative as_signed
inside_reads = as_book inside inside_rules refl

pub fifth_reads : Reads fifth fifth_rules
unfolding digits as_number as_negative as_signed
fifth_reads = as_book fifth fifth_rules refl

pub idle_reads : Reads idle idle_rules
unfolding digits as_number as_negative as_signed
idle_reads = as_book idle idle_rules refl

pub bare_alike : ReadAlike two_ways two_ways_bare
unfolding digits as_number as_negative as_signed
bare_alike = record { rules = two_ways_rules; first = two_ways_reads; second = as_book two_ways_bare two_ways_rules refl }

pub cut_refused : Refused two_ways_cut 5 4 1
unfolding digits as_number as_negative as_signed
cut_refused = record { cause = TextEnds; answer = refl; its_number = refl }

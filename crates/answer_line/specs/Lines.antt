-- The line of an answer, what writing it leaves, and what its fields tell. Assumes nothing.
--
--   texts_of       the texts of variables 0 to p − 1
--   line_of        these, with a comma between two
--   fault_behind   what does not fit of a variable's comma and text, behind some bytes
--   fault_of       the first comma or text of a line that does not fit into 1,024 bytes
--   WritesLine     a line Written, or Refused
--   FieldsTell     which fields of a line are equal
--   ended          where a step ends that was made, or why it was not
--   Put            some bytes stand at a place of the buffer
--   PutsComma      a comma put, or refused, and so PutsText, PutsField and PutsLine
--   lead           the comma before the text of a variable, which the first lacks
use Rattle.std.specs.Prelude.{◌≡◌, ℕ, zero, suc, ◌+◌, ◌<◌, ◌≤◌, cond, List, [], ◌∷◌, ◌++◌, map, length, take, drop, replicate, Some, None, Ok, Err, Option, Result, nat_le, slice_index_or, slice_set}
use Rattle.std.specs.List.{range_with_len}
use Rattle.fields.specs.Cutting.{comma, fields, joined}
use Rattle.bank.specs.Views.{Meaning, Always}
use Rattle.bank.specs.declared.Refusal.TheVariants.{TextTooLong}
use Rattle.answer_line.specs.declared.Overlong.{Overlong}
use Rattle.answer_line.specs.declared.Overlong.TheVariants.{Comma, Text}

abbrev pub texts_of : (ℕ → List ℕ) → ℕ → List (List ℕ)
texts_of text p = map text (range_with_len 0 p)

abbrev pub line_of : (ℕ → List ℕ) → ℕ → List ℕ
line_of text p = joined (texts_of text p)

-- behind `at` bytes, of variable v
abbrev pub fault_behind : ℕ → (ℕ → List ℕ) → ℕ → Option Overlong
fault_behind at text zero = cond (nat_le (at + length (text 0)) 1024) None (Some (Text TextTooLong))
fault_behind at text (suc v) =
    cond (nat_le (at + 1) 1024)
    (cond (nat_le (at + 1 + length (text (suc v))) 1024) None (Some (Text TextTooLong)))
    (Some Comma)

-- the first of two
abbrev pub earlier : Option Overlong → Option Overlong → Option Overlong
earlier (Some o) next = Some o
earlier None next = next

abbrev pub fault_of : (ℕ → List ℕ) → ℕ → Option Overlong
fault_of text zero = None
fault_of text (suc v) = earlier (fault_of text v) (fault_behind (length (line_of text v)) text v)

-- the line stands at the front, and the bytes past it are as they were
pub record Written (text : ℕ → List ℕ) (p : ℕ) (before after : List ℕ) (len : ℕ) : Type 0 where
  pub long : len ≡ length (line_of text p)
  pub within : len ≤ 1024
  pub front : take len after ≡ line_of text p
  pub rest : drop len after ≡ drop len before

-- the line is too long, the first 1,024 bytes are zero, and those past them are as they were
pub record Refused (text : ℕ → List ℕ) (p : ℕ) (before after : List ℕ) (o : Overlong) : Type 0 where
  pub long : 1024 < length (line_of text p)
  pub cause : fault_of text p ≡ Some o
  pub zero : take 1024 after ≡ replicate 1024 0
  pub rest : drop 1024 after ≡ drop 1024 before

abbrev pub WritesLine : Meaning → ℕ → ℕ → List ℕ → List ℕ → Result ℕ Overlong → Type 0
WritesLine m s p before after (Ok len) = Written (m.text s) p before after len
WritesLine m s p before after (Err o) = Refused (m.text s) p before after o

-- fields i and j are equal exactly if every solution gives variables i and j equal values
pub record FieldsTell (m : Meaning) (s p : ℕ) (line : List ℕ) : Type 0 where
  pub as_many : 0 < p → length (fields line) ≡ p
  pub alike : (i j : ℕ) → i < p → j < p → slice_index_or (fields line) i [] ≡ slice_index_or (fields line) j [] → Always (m.solutions s) (λ σ. σ i ≡ σ j)
  pub alike_back : (i j : ℕ) → i < p → j < p → Always (m.solutions s) (λ σ. σ i ≡ σ j) → slice_index_or (fields line) i [] ≡ slice_index_or (fields line) j []

-- The steps of writing.

abbrev pub ended : ℕ → Result (Unit {0}) Overlong → Result ℕ Overlong
ended end (Ok done) = Ok end
ended end (Err o) = Err o

-- the bytes stand from `at` to `end`, and those around them are as they were
pub record Put (bytes : List ℕ) (at : ℕ) (before after : List ℕ) (end : ℕ) : Type 0 where
  pub to : end ≡ at + length bytes
  pub within : end ≤ 1024
  pub wrote : after ≡ take at before ++ (bytes ++ drop end before)

abbrev pub PutsComma : ℕ → List ℕ → List ℕ → Result ℕ Overlong → Type 0
PutsComma at before after (Ok end) = (at < 1024) × (end ≡ at + 1) × (after ≡ slice_set before at comma)
PutsComma at before after (Err o) = (at ≡ 1024) × (o ≡ Comma) × (after ≡ before)

abbrev pub PutsText : List ℕ → ℕ → List ℕ → List ℕ → Result ℕ Overlong → Type 0
PutsText text at before after (Ok end) = Put text at before after end
PutsText text at before after (Err o) = (1024 < at + length text) × (o ≡ Text TextTooLong) × (drop 1024 after ≡ drop 1024 before)

abbrev pub lead : ℕ → List ℕ
lead zero = []
lead (suc v) = comma ∷ []

abbrev pub PutsField : (ℕ → List ℕ) → ℕ → ℕ → List ℕ → List ℕ → Result ℕ Overlong → Type 0
PutsField text v at before after (Ok end) = Put (lead v ++ text v) at before after end
PutsField text v at before after (Err o) = (fault_behind at text v ≡ Some o) × (drop 1024 after ≡ drop 1024 before)

abbrev pub PutsLine : (ℕ → List ℕ) → ℕ → List ℕ → List ℕ → Result ℕ Overlong → Type 0
PutsLine text p before after (Ok end) = Put (line_of text p) 0 before after end
PutsLine text p before after (Err o) = (1024 < length (line_of text p)) × (fault_of text p ≡ Some o) × (drop 1024 after ≡ drop 1024 before)

-- How reading moves a cursor within its line. Assumes nothing.
--
--   Next     one field was passed
--   Stays    the lines behind the cursor's own, and its number, are as they were
use Rattle.std.specs.Prelude.{◌≡◌, ◌+◌, drop}
use Rattle.fields.specs.Cursor.{here, later}
use Rattle.fields.specs.declared.Fields.{Fields}

pub record Next (f g : Fields) : Type 0 where
  pub behind : here g ≡ drop 1 (here f)
  pub number : g.given ≡ f.given + 1

pub record Stays (f g : Fields) : Type 0 where
  pub behind : later g ≡ later f
  pub number : g.line ≡ f.line

-- The field that is given is the first of those to come, and the others stay to come.
use Rattle.std.proofs.Common.{◌≡◌, ◌+◌, ◌-◌, ◌∷◌, length, take, ⊎_elim, arith, rules}
use Rattle.std.proofs.lemmas.Bool.{cases_eq}
use Rattle.fields.specs.Cursor.{rest, here, later}
use Rattle.fields.proofs.Cuts.{Scan}
use Rattle.fields.proofs.Moves.{field_last, field_more}
use Rattle.fields.proofs.FieldsIterator.next.Goals as goal

pub returns : goal.returns
returns c =
    let s = c.args.self.now in
    let g = c.pass.new.self in
    let n = c.field_len.result in
    let told = c.field_len.ensures in
    let scan : Scan n (take (length s.text.now - s.pos) (rest s)) = record { within = told.within; plain = told.plain; stops = told.stops } in
    let passed = c.pass.ensures in
    let bytes = take (s.pos + n - s.pos) (rest s) in
    let moved : (here s ≡ bytes ∷ here g) × (later g ≡ later s) =
    ⊎_elim
    (λ e. field_last s g n c.if-not-self.false scan passed.text e (passed.last e))
    (λ e. field_more s g n c.if-not-self.false scan passed.text e (passed.more (omega arith)))
    (cases_eq (s.pos + n) (length s.text.now)) in
    record { steps = (rw passed.bytes moved.0, moved.1, passed.line.0, passed.number.0, passed.line.1, passed.number.1); goes = search rules }

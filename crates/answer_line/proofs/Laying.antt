-- What a line is made of, and what writing it piece by piece leaves of a buffer. Assumes nothing.
use Rattle.std.proofs.Common.{◌≡◌, ℕ, zero, suc, ◌+◌, ◌-◌, ◌<◌, ◌≤◌, List, [], ◌∷◌, ◌++◌, map, length, take, drop, replicate, Some, None, Ok, Err, Result, is_err, true, false, sym, refl, ap, ◌∙◌, ap₂, inl, inr, append_assoc, add-one, arith, length-append, length-drop, take-append-drop, length-take}
use borrow.Rule.Slice.PartMut.{put_mid}
use lib.ListN.{length-replicate}
use Rattle.std.proofs.lemmas.List.FromFn.{map-range_with_len_more}
use Rattle.std.proofs.lemmas.List.{drop-append-le, drop_at, drop-drop, length-take-le, set_split, take_at}
use Rattle.std.proofs.lemmas.Slice.{drop-put_mid}
use Rattle.std.proofs.lemmas.Bool.{both_ways, false≢true, cases_lt, le-leb, lt-leb}
use Rattle.std.specs.List.{range_with_len}
use Rattle.fields.specs.Cutting.{comma, joined}
use Rattle.bank.specs.Calls.{Printed, Prints}
use Rattle.bank.specs.Views.{Meaning}
use Rattle.bank.specs.declared.Refusal.{Refusal}
use Rattle.bank.specs.declared.Refusal.TheVariants.{NotLive, NoSpare, BadConstraint, BadVariable, Contradiction, TextTooLong}
use Rattle.answer_line.specs.declared.Overlong.{Overlong}
use Rattle.answer_line.specs.declared.Overlong.TheVariants.{Comma, Text}
use Rattle.answer_line.specs.Lines.{line_of, fault_behind, fault_of, lead, Put, PutsComma, PutsText, PutsField, PutsLine, WritesLine}

-- one more piece behind others
pub joined_push : (f : List ℕ) (fs : List (List ℕ)) (g : List ℕ) → joined ((f ∷ fs) ++ g ∷ []) ≡ joined (f ∷ fs) ++ comma ∷ g
joined_push f [] g = refl
joined_push f (h ∷ fs) g = ap (λ r. f ++ comma ∷ r) (joined_push h fs g) ∙ sym (append_assoc f (comma ∷ joined (h ∷ fs)) (comma ∷ g))

-- the line with one variable more
pub line_more : (text : ℕ → List ℕ) (v : ℕ) → line_of text (v + 1) ≡ line_of text v ++ (lead v ++ text v)
line_more text zero = refl
line_more text (suc v) = ap joined (map-range_with_len_more text 0 (suc v) (suc v) (omega arith)) ∙ joined_push (text 0) (map text (range_with_len 1 v)) (text (suc v))

pub length_line_more : (text : ℕ → List ℕ) (v : ℕ) → length (line_of text (v + 1)) ≡ length (line_of text v) + length (lead v ++ text v)
length_line_more text v = ap length (line_more text v) ∙ length-append (line_of text v) (lead v ++ text v)

pub line_grows : (text : ℕ → List ℕ) (v p : ℕ) → v ≤ p → length (line_of text v) ≤ length (line_of text p)
line_grows text v zero h = let z : v ≡ 0 = omega arith in rw z (omega arith)
line_grows text v (suc p) h =
    let next : length (line_of text (suc p)) ≡ length (line_of text (p + 1)) = ap (λ n. length (line_of text n)) (sym (add-one p)) in
    elim (cases_lt v (suc p)) [ inl u ↦ omega (arith, line_grows text v p (omega arith), length_line_more text p, next) | inr u ↦ let z : v ≡ suc p = omega arith in rw z (omega arith) ]

-- a field that fits has no fault, and one with a fault is too long
pub field_fits : (at : ℕ) (text : ℕ → List ℕ) (v : ℕ) → at + length (lead v ++ text v) ≤ 1024 → fault_behind at text v ≡ None
field_fits at text zero h = let e = le-leb (at + length (text 0)) 1024 h in rw e refl
field_fits at text (suc v) h =
    let first = le-leb (at + 1) 1024 (omega arith) in
    let second = le-leb (at + 1 + length (text (suc v))) 1024 (omega arith) in
    rw (first, second) refl

pub field_long : (at : ℕ) (text : ℕ → List ℕ) (v : ℕ) (o : Overlong) → fault_behind at text v ≡ Some o → 1024 < at + length (lead v ++ text v)
field_long at text v o e = elim (cases_lt 1024 (at + length (lead v ++ text v))) [ inl u ↦ u | inr u ↦ let f = field_fits at text v u in let z : ◌≡◌ {A = ℕ} 0 1 = cc in omega arith ]

-- a line within 1,024 bytes has no fault
pub line_fits : (text : ℕ → List ℕ) (v : ℕ) → length (line_of text v) ≤ 1024 → fault_of text v ≡ None
line_fits text zero h = refl
line_fits text (suc v) h =
    let next : length (line_of text (suc v)) ≡ length (line_of text (v + 1)) = ap (λ n. length (line_of text n)) (sym (add-one v)) in
    let front = line_fits text v (omega (arith, length_line_more text v)) in
    rw front (field_fits (length (line_of text v)) text v (omega (arith, length_line_more text v)))

-- a fault of the first fields is that of the line
pub fault_stays : (text : ℕ → List ℕ) (v p : ℕ) (o : Overlong) → v ≤ p → fault_of text v ≡ Some o → fault_of text p ≡ Some o
fault_stays text v zero o h e = let z : v ≡ 0 = omega arith in rw z at e
fault_stays text v (suc p) o h e = elim (cases_lt v (suc p)) [ inl u ↦ let early = fault_stays text v p o (omega arith) e in rw early refl | inr u ↦ let z : v ≡ suc p = omega arith in rw z at e ]

-- The bytes are put at `at`, which lies in the buffer.
module _ (bytes : List ℕ) (at : ℕ) (before after : List ℕ) (end : ℕ) (low : at ≤ length before) (put : Put bytes at before after end) where
  front_long : length (take at before ++ bytes) ≡ end
  front_long = length-append (take at before) bytes ∙ ap (λ n. n + length bytes) (length-take-le at before low) ∙ sym put.to

  put_whole : after ≡ (take at before ++ bytes) ++ drop end before
  put_whole = put.wrote ∙ sym (append_assoc (take at before) bytes (drop end before))

  pub put_front : take end after ≡ take at before ++ bytes
  put_front = ap (take end) put_whole ∙ take_at (take at before ++ bytes) (drop end before) end front_long

  pub put_rest : drop end after ≡ drop end before
  put_rest = ap (drop end) put_whole ∙ drop_at (take at before ++ bytes) (drop end before) end front_long

  -- the bytes past a place that is not before the end
  pub put_past : (n : ℕ) → end ≤ n → drop n after ≡ drop n before
  put_past n h =
      let split : end + (n - end) ≡ n = omega arith in
      ap (λ k. drop k after) (sym split) ∙ sym (drop-drop (n - end) end after) ∙ ap (drop (n - end)) put_rest ∙ drop-drop (n - end) end before ∙ ap (λ k. drop k before) split

-- bytes behind bytes
pub put_both : (xs ys : List ℕ) (at mid end : ℕ) (before between after : List ℕ) → at ≤ length before → Put xs at before between mid → Put ys mid between after end → Put (xs ++ ys) at before after end
put_both xs ys at mid end before between after low p q = record {
  to = q.to ∙ omega (arith, p.to, length-append xs ys);
  within = q.within;
  wrote =
      q.wrote
      ∙ ap₂ (λ a b. a ++ (ys ++ b)) (put_front xs at before between mid low p) (put_past xs at before between mid low p end (omega (arith, q.to)))
      ∙ append_assoc (take at before) xs (ys ++ drop end before)
      ∙ ap (λ t. take at before ++ t) (sym (append_assoc xs ys (drop end before)));
}

pub comma_put : (at begin : ℕ) (before after : List ℕ) → 1024 ≤ length before → PutsComma at before after (Ok begin) → Put (comma ∷ []) at before after begin
comma_put at begin before after room p = record {
  to = p.1;
  within = omega (arith, p.0, p.1);
  wrote =
      p.2
      ∙ set_split before at comma (omega (arith, p.0))
      ∙ ap (λ n. take at before ++ comma ∷ drop n before) (sym (add-one at) ∙ sym p.1);
}

-- a part's end, after its first k were dropped, and what follows the part
rejoin : (l : List ℕ) (k j : ℕ) → k ≤ j → j ≤ length l → drop k (take j l) ++ drop j l ≡ drop k l
rejoin l k j kj jl =
    let h : k ≤ length (take j l) = simp length-take (omega arith) in
    sym (drop-append-le k (take j l) (drop j l) h) ∙ ap (drop k) (take-append-drop j l)

-- The rest of a buffer, from `at` to byte `most`, is lent to a bank's print.
module _ (v : ℕ) (m : Meaning) (s x : ℕ) (at most : ℕ) (before part : List ℕ) (low : at ≤ most) (room : most ≤ length before) where
  lent_long : length (take (most - at) (drop at before)) ≡ most - at
  lent_long = simp (length-take, length-drop) (omega arith)

  pub printed_at : (len : ℕ) → Printed v m s x (take (most - at) (drop at before)) part len → put_mid at (most - at) before part ≡ take at before ++ (m.text s x ++ drop (at + len) before)
  printed_at len p =
      let inside : len ≤ most - at = omega (arith, lent_long, p.room) in
      let long : most - at ≤ length (drop at before) = simp length-drop (omega arith) in
      let whole : part ≡ m.text s x ++ drop len (take (most - at) (drop at before)) = sym (take-append-drop len part) ∙ ap₂ (λ a b. a ++ b) p.front p.rest in
      ap (λ t. take at before ++ (t ++ drop (most - at) (drop at before))) whole
      ∙ ap (λ t. take at before ++ t) (append_assoc (m.text s x) _ _ ∙ ap (λ t. m.text s x ++ t) (rejoin (drop at before) len (most - at) inside long ∙ drop-drop len at before))

pub put_text_lem : (v : ℕ) (m : Meaning) (s x at : ℕ) (before part : List ℕ) (len : ℕ) → at ≤ 1024 → 1024 ≤ length before → Printed v m s x (take (1024 - at) (drop at before)) part len → Put (m.text s x) at before (put_mid at (1024 - at) before part) (at + len)
put_text_lem v m s x at before part len low room p = record {
  to = ap (λ n. at + n) p.long;
  within = omega (arith, lent_long v m s x at 1024 before part low room, p.room);
  wrote = printed_at v m s x at 1024 before part low room len p;
}

-- of a live store and one of its variables, a print is refused only for want of room
pub text_refused : (v : ℕ) (m : Meaning) (s x at : ℕ) (before part : List ℕ) (refusal : Refusal) → m.live s ≡ true → x < v → at ≤ 1024 → 1024 ≤ length before → Prints v m s x (take (1024 - at) (drop at before)) part (Err refusal) → PutsText (m.text s x) at before (put_mid at (1024 - at) before part) (Err (Text refusal))
text_refused v m s x at before part NotLive live known low room p = absurd (both_ways (m.live s) p.0 live)
text_refused v m s x at before part NoSpare live known low room p = absurd p
text_refused v m s x at before part BadConstraint live known low room p = absurd p
text_refused v m s x at before part BadVariable live known low room p = absurd (omega (arith, p.outside))
text_refused v m s x at before part Contradiction live known low room p = absurd p
text_refused v m s x at before part TextTooLong live known low room p =
    let lent = lent_long v m s x at 1024 before part low room in
    let same : length part ≡ 1024 - at = ap length p.zero ∙ length-replicate (length (take (1024 - at) (drop at before))) 0 ∙ lent in
    (omega (arith, lent, p.long), refl, drop-put_mid at (1024 - at) before part 1024 (omega arith) (omega arith) same)

-- the first field has no comma
pub first_field : (text : ℕ → List ℕ) (v at : ℕ) (before after : List ℕ) (r : Result ℕ Overlong) → v ≡ 0 → PutsText (text v) at before after r → PutsField text v at before after r
first_field text zero at before after (Ok end) e p = p
first_field text zero at before after (Err o) e p =
    let long = lt-leb (at + length (text 0)) 1024 p.0 in
    let cause : fault_behind at text 0 ≡ Some (Text TextTooLong) = rw long refl in
    (cause ∙ ap Some (sym p.1), p.2)
first_field text (suc v) at before after r e p = absurd (omega arith)

-- there is no place for a comma
pub no_comma : (text : ℕ → List ℕ) (v at : ℕ) (before after : List ℕ) (o : Overlong) → 0 < v → PutsComma at before after (Err o) → PutsField text v at before after (Err o)
no_comma text zero at before after o some p = absurd (omega arith)
no_comma text (suc v) at before after o some p =
    let long = lt-leb (at + 1) 1024 (omega (arith, p.0)) in
    let cause : fault_behind at text (suc v) ≡ Some Comma = rw long refl in
    (cause ∙ ap Some (sym p.1), ap (drop 1024) p.2)

-- a text behind a comma
pub next_field : (text : ℕ → List ℕ) (v at begin : ℕ) (before between after : List ℕ) (r : Result ℕ Overlong) → 0 < v → 1024 ≤ length before → PutsComma at before between (Ok begin) → PutsText (text v) begin between after r → PutsField text v at before after r
next_field text zero at begin before between after r some room p q = absurd (omega arith)
next_field text (suc v) at begin before between after (Ok end) some room p q =
    put_both (comma ∷ []) (text (suc v)) at begin end before between after (omega (arith, p.0)) (comma_put at begin before between room p) q
next_field text (suc v) at begin before between after (Err o) some room p q =
    let put = comma_put at begin before between room p in
    let fits = le-leb (at + 1) 1024 (omega (arith, p.0)) in
    let long = lt-leb (at + 1 + length (text (suc v))) 1024 (omega (arith, p.1, q.0)) in
    let cause : fault_behind at text (suc v) ≡ Some (Text TextTooLong) = rw (fits, long) refl in
    let past = put_past (comma ∷ []) at before between begin (omega (arith, p.0)) put 1024 put.within in
    (cause ∙ ap Some (sym q.1), q.2 ∙ past)

-- The loop: the line of the variables below v stands at the front.

pub line_put : (text : ℕ → List ℕ) (v pos end : ℕ) (before now after : List ℕ) → Put (line_of text v) 0 before now pos → PutsField text v pos now after (Ok end) → Put (line_of text (v + 1)) 0 before after end
line_put text v pos end before now after p q =
    rw (line_more text v) (put_both (line_of text v) (lead v ++ text v) 0 pos end before now after (omega arith) p q)

-- a field that is refused is the line's fault
pub fields_refused : (text : ℕ → List ℕ) (v p pos : ℕ) (before now after : List ℕ) (o : Overlong) → v < p → Put (line_of text v) 0 before now pos → PutsField text v pos now after (Err o) → PutsLine text p before after (Err o)
fields_refused text v p pos before now after o h put q =
    let at : pos ≡ length (line_of text v) = put.to ∙ omega arith in
    let fits = line_fits text v (omega (arith, put.within)) in
    let here : fault_behind (length (line_of text v)) text v ≡ Some o = rw (← at) q.0 in
    let cause : fault_of text (suc v) ≡ Some o = rw fits here in (
      omega (arith, length_line_more text v, field_long pos text v o q.0, line_grows text (v + 1) p (omega arith)),
      fault_stays text (suc v) p o (omega arith) cause,
      q.1 ∙ put_past (line_of text v) 0 before now pos (omega arith) put 1024 put.within,
    )

-- The whole line: it stands where it fits, and else the bytes that it may have are cleared.
pub line_kept : (m : Meaning) (s p : ℕ) (before after : List ℕ) (r : Result ℕ Overlong) → PutsLine (m.text s) p before after r → is_err r ≡ false → WritesLine m s p before after r
line_kept m s p before after (Ok end) put e = record {
  long = omega (arith, put.to);
  within = put.within;
  front = put_front (line_of (m.text s) p) 0 before after end (omega arith) put;
  rest = put_rest (line_of (m.text s) p) 0 before after end (omega arith) put;
}
line_kept m s p before after (Err o) put e = absurd (false≢true (sym e))

pub line_cleared : (m : Meaning) (s p : ℕ) (before missed after : List ℕ) (r : Result ℕ Overlong) → PutsLine (m.text s) p before missed r → is_err r ≡ true → after ≡ replicate 1024 0 ++ drop 1024 missed → WritesLine m s p before after r
line_cleared m s p before missed after (Ok end) put e clear = absurd (false≢true e)
line_cleared m s p before missed after (Err o) put e clear =
    let zeros : List ℕ = replicate 1024 0 in
    let many : length zeros ≡ 1024 = length-replicate {A = ℕ} 1024 0 in
    record {
      long = put.0;
      cause = put.1;
      zero = ap (take 1024) clear ∙ take_at zeros (drop 1024 missed) 1024 many;
      rest = ap (drop 1024) clear ∙ drop_at zeros (drop 1024 missed) 1024 many ∙ put.2;
    }

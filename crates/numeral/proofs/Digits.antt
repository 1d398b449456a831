-- Digits read one by one, as the loop of `number` does, and the number that they write. Assumes nothing.
use Rattle.std.proofs.Common.{◌≡◌, ℕ, ◌+◌, ◌-◌, ◌*◌, ◌^◌, ◌<◌, ◌≤◌, true, false, ◌&&◌, leb, List, [], ◌∷◌, length, get_or, drop, Some, None, decimal, Option, sym, refl, ap, ◌∙◌, subst, ⊎_elim, arith, rules, MatchOption}
use Rattle.std.specs.Char.{is_ascii_digit}
use Rattle.std.specs.Str.{all_ascii_digits}
use Rattle.std.proofs.lemmas.Fmt.{digits_decimal, digits_value-decimal, decimal-digits_value, first_decimal, decimal_nonempty, decimal_digit}
use Rattle.std.proofs.lemmas.Str.Parse.{IsNumeralModel, numerals_by_fold}
use Rattle.std.proofs.lemmas.List.{at_drop_more}
use Rattle.std.proofs.lemmas.Bool.{cases_Bool, cases_lt, cases_eq, leb-true, leb-false, both_ways, not-true, not_from_false, cond-true, cond-false, and_from, and_parts, and_left, and_right, eq-eqb, ne_eqb, lt-ltb, le-ltb}
use Rattle.numeral.specs.Reads.{Reads}
use Rattle.numeral.specs.Steps.{leads, appended, scan}

-- the number that n becomes with the digits cs behind it
abbrev pub read_on : ℕ → List ℕ → ℕ
read_on n [] = n
read_on n (c ∷ cs) = read_on (n * 10 + (c - 48)) cs

pub own : IsNumeralModel (λ ds. all_ascii_digits ds ≡ true) (read_on 0)
own = numerals_by_fold _ (search rules) read_on (search rules)

read_on_le : (n : ℕ) (cs : List ℕ) → n ≤ read_on n cs
read_on_le n [] = omega arith
read_on_le n (c ∷ cs) = omega (arith, read_on_le (n * 10 + (c - 48)) cs)

Scanned : ℕ → ℕ → List ℕ → Option ℕ → Type 0
Scanned max n bs r =
    MatchOption r (all_ascii_digits bs ≡ true → read_on n bs ≤ max → ⊥) (λ m. (all_ascii_digits bs ≡ true) × (read_on n bs ≡ m) × (m ≤ max))

-- what is read once `appended` has answered o
goes : ℕ → List ℕ → Option ℕ → Option ℕ
goes max cs o = elim o [ Some m ↦ scan max m cs | None ↦ None ]

-- a digit in front changes nothing but the number so far
ahead : (max n c : ℕ) (cs : List ℕ) (r : Option ℕ) → is_ascii_digit c ≡ true → Scanned max (n * 10 + (c - 48)) cs r → Scanned max n (c ∷ cs) r
unfolding Scanned
ahead max n c cs None d g = rw d g
ahead max n c cs (Some m) d g = rw d g

-- the three ways of `appended`

within : (max n c : ℕ) (cs : List ℕ) → is_ascii_digit c ≡ true → leb (n * 10 + (c - 48)) max ≡ true → Scanned max (n * 10 + (c - 48)) cs (scan max (n * 10 + (c - 48)) cs) → Scanned max n (c ∷ cs) (scan max n (c ∷ cs))
unfolding Scanned goes
within max n c cs d l g =
    let is = cond-true (is_ascii_digit c && leb (n * 10 + (c - 48)) max) (Some (n * 10 + (c - 48))) None (and_from _ _ d l) in
    subst (λ o. Scanned max n (c ∷ cs) (goes max cs o)) (sym is) (ahead max n c cs (scan max (n * 10 + (c - 48)) cs) d g)

above : (max n c : ℕ) (cs : List ℕ) → leb (n * 10 + (c - 48)) max ≡ false → Scanned max n (c ∷ cs) (scan max n (c ∷ cs))
unfolding Scanned goes
above max n c cs l =
    let is = cond-false (is_ascii_digit c && leb (n * 10 + (c - 48)) max) (Some (n * 10 + (c - 48))) None (and_right _ _ l) in
    let more = leb-false (n * 10 + (c - 48)) max l in
    let still = read_on_le (n * 10 + (c - 48)) cs in
    subst (λ o. Scanned max n (c ∷ cs) (goes max cs o)) (sym is) (λ _ le. omega arith)

no_digit : (max n c : ℕ) (cs : List ℕ) → is_ascii_digit c ≡ false → Scanned max n (c ∷ cs) (scan max n (c ∷ cs))
unfolding Scanned goes
no_digit max n c cs d =
    let is = cond-false (is_ascii_digit c && leb (n * 10 + (c - 48)) max) (Some (n * 10 + (c - 48))) None (and_left _ _ d) in
    subst (λ o. Scanned max n (c ∷ cs) (goes max cs o)) (sym is) (λ f. absurd (both_ways (is_ascii_digit c) d (and_parts _ _ f).0))

scan_scanned : (max n : ℕ) (bs : List ℕ) → n ≤ max → Scanned max n bs (scan max n bs)
unfolding Scanned
scan_scanned max n [] h = (refl, refl, h)
scan_scanned max n (c ∷ cs) h =
    ⊎_elim
    (λ (d : is_ascii_digit c ≡ true).
    ⊎_elim
    (λ (l : leb (n * 10 + (c - 48)) max ≡ true). within max n c cs d l (scan_scanned max (n * 10 + (c - 48)) cs (leb-true _ _ l)))
    (λ (l : leb (n * 10 + (c - 48)) max ≡ false). above max n c cs l)
    (cases_Bool (leb (n * 10 + (c - 48)) max)))
    (λ (d : is_ascii_digit c ≡ false). no_digit max n c cs d)
    (cases_Bool (is_ascii_digit c))

-- what `leads` says, by places
Led : List ℕ → Type 0
Led bs = (0 < length bs) × (get_or bs 0 0 ≡ 48 → length bs ≡ 1)

leads_led : (bs : List ℕ) → leads bs ≡ true → Led bs
unfolding Led
leads_led [] e = absurd (both_ways false refl e)
leads_led (b ∷ bs) e =
    (omega arith, λ z. ⊎_elim (λ (p : 0 < length bs). absurd (both_ways _ (not-true _ e) (and_from _ _ (eq-eqb b 48 z) (lt-ltb 0 (length bs) p)))) (λ (p : length bs ≤ 0). omega arith) (cases_lt 0 (length bs)))

led_leads : (bs : List ℕ) → Led bs → leads bs ≡ true
unfolding Led
led_leads [] l = absurd (omega (arith, l.0))
led_leads (b ∷ bs) l =
    ⊎_elim (λ (e : b ≡ 48). not_from_false _ (and_right _ _ (le-ltb 0 (length bs) (omega (arith, l.1 e))))) (λ (e : b ≡ 48 → ⊥). not_from_false _ (and_left _ _ (ne_eqb b 48 e))) (cases_eq b 48)

led_decimal : (n : ℕ) → n < 2 ^ 64 → Led (decimal n)
unfolding Led
led_decimal n h =
    (decimal_nonempty n h, λ e. ⊎_elim (λ p. absurd (omega (arith, first_decimal n p h))) (λ z. let small : n < 10 = omega arith in ap length (decimal_digit n small)) (cases_lt 0 n))

scanned_reads : (max : ℕ) (bs : List ℕ) (r : Option ℕ) → max < 2 ^ 64 → Led bs → Scanned max 0 bs r → Reads max bs r
unfolding Scanned Led
scanned_reads max bs None h led g =
    λ n le e.
    let small : n < 2 ^ 64 = omega arith in
    g (subst (λ b. all_ascii_digits b ≡ true) (sym e) (digits_decimal own n small)) (subst (λ m. m ≤ max) (sym (ap (read_on 0) e ∙ digits_value-decimal own n small)) le)
scanned_reads max bs (Some m) h led g =
    (g.2, sym (decimal-digits_value own bs g.0 led.0 led.1 (let e = g.1 in omega arith)) ∙ ap decimal g.1)

-- a field that does not begin as a number does is none
pub unled_reads : (max : ℕ) (bs : List ℕ) → max < 2 ^ 64 → leads bs ≡ false → Reads max bs None
unled_reads max bs h unled n le e =
    both_ways (leads bs) unled (led_leads bs (subst Led (sym e) (led_decimal n (omega arith))))

-- one that does is what `scan` reads in it
pub scan_reads : (max : ℕ) (bs : List ℕ) (r : Option ℕ) → max < 2 ^ 64 → leads bs ≡ true → r ≡ scan max 0 bs → Reads max bs r
scan_reads max bs r h led e =
    scanned_reads max bs r h (leads_led bs led) (subst (Scanned max 0 bs) (sym e) (scan_scanned max 0 bs (omega arith)))

-- the loop's steps

pub scan_more : (max n : ℕ) (bs : List ℕ) (i m : ℕ) → i < length bs → Some m ≡ appended max n (get_or bs i 0) → scan max n (drop i bs) ≡ scan max m (drop (i + 1) bs)
unfolding goes
scan_more max n bs i m h e =
    at_drop_more (scan max n) bs i 0 h ∙ ap (goes max (drop (i + 1) bs)) (sym e)

pub scan_stops : (max n : ℕ) (bs : List ℕ) (i : ℕ) → i < length bs → None ≡ appended max n (get_or bs i 0) → scan max n (drop i bs) ≡ None
unfolding goes
scan_stops max n bs i h e =
    at_drop_more (scan max n) bs i 0 h ∙ ap (goes max (drop (i + 1) bs)) (sym e)

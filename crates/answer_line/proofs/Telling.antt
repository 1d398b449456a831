-- The fields of a line are its texts, and so they tell which variables are equal. Assumes nothing.
use Rattle.std.proofs.Common.{◌≡◌, ℕ, zero, suc, ◌+◌, ◌<◌, ◌≤◌, true, List, [], ◌∷◌, map, length, get_or, sym, ap, ◌∙◌, arith}
use Rattle.std.proofs.lemmas.List.FromFn.{get_or-map-range_with_len, length-map-range_with_len}
use Rattle.std.specs.List.{range_with_len}
use Rattle.bank.specs.Views.{View}
use Rattle.fields.specs.Cutting.{comma, fields, Without, AllWithout}
use Rattle.fields.proofs.Joining.{fields_joined}
use Rattle.answer_line.specs.Lines.{line_of, texts_of, FieldsTell}

-- a byte that stands at no place
pub without_since : (c : ℕ) (t : List ℕ) → ((i : ℕ) → i < length t → get_or t i 0 ≡ c → ⊥) → Without c t
without_since c [] h = tt
without_since c (b ∷ bs) h = (h 0 (omega arith), without_since c bs (λ i l. h (suc i) (omega arith)))

pub texts_without : (c : ℕ) (text : ℕ → List ℕ) (a n : ℕ) → ((x : ℕ) → x < a + n → Without c (text x)) → AllWithout c (map text (range_with_len a n))
texts_without c text a zero h = tt
texts_without c text a (suc n) h = (h a (omega arith), texts_without c text (a + 1) n (λ x l. h x (omega arith)))

-- cut at its commas, the line is its texts again
pub fields_line : (text : ℕ → List ℕ) (p : ℕ) → 0 < p → ((x : ℕ) → x < p → Without comma (text x)) → fields (line_of text p) ≡ texts_of text p
fields_line text zero some h = absurd (omega arith)
fields_line text (suc n) some h = fields_joined (text 0) (map text (range_with_len 1 n)) (texts_without comma text 0 (suc n) (λ x l. h x (omega arith)))

pub field_line : (text : ℕ → List ℕ) (p i : ℕ) → i < p → ((x : ℕ) → x < p → Without comma (text x)) → get_or (fields (line_of text p)) i [] ≡ text i
field_line text p i l h = ap (λ fs. get_or fs i []) (fields_line text p (omega arith) h) ∙ get_or-map-range_with_len text 0 p i i [] l (omega arith)

-- the law of fields, of a live store
pub fields_tell : {S : Type 0} (b : View S) (state : S) (s p : ℕ) → (b.meaning state).live s ≡ true → p ≤ b.variables → FieldsTell (b.meaning state) s p (line_of ((b.meaning state).text s) p)
fields_tell b state s p live few =
    let text : ℕ → List ℕ = (b.meaning state).text s in
    let plain : (x : ℕ) → x < p → Without comma (text x) = λ x l. without_since comma (text x) (λ i h. (b.laws.plain state s x live (omega arith) i h).0) in
    record {
      as_many = λ some. ap length (fields_line text p some plain) ∙ length-map-range_with_len text 0 p;
      alike = λ i j li lj e. b.laws.alike state s i j live (omega arith) (omega arith) (sym (field_line text p i li plain) ∙ e ∙ field_line text p j lj plain);
      alike_back = λ i j li lj e. field_line text p i li plain ∙ b.laws.alike_back state s i j live (omega arith) (omega arith) e ∙ sym (field_line text p j lj plain);
    }

-- Frames: the values and the bounds of the variables that they name. Assumes nothing.
use Rattle.std.proofs.Common.{◌≡◌, ℕ, suc, ◌<◌, ◌≤◌, cond, eqb, List, [], ◌∷◌, ◌++◌, map, length, pos, sym, refl, ap, ◌∙◌, subst, ap₂, arith, eq-eqb, ne_eqb}
use Rattle.std.proofs.lemmas.List.{get_or-map, length_push}
use Rattle.bank.specs.Kinds.{Value, number, Assignment}
use Rattle.book.specs.Language.{Each}
use Rattle.machine.specs.Machine.{Frame, vars_of_lem}
use Rattle.machine.specs.Derivations.{values_of}
use Rattle.book.proofs.Misfits.{each_append}
use Rattle.machine.proofs.Lists.{each_map, each_get_d}

-- Each number is below n.
abbrev pub Below : ℕ → List ℕ → Type 0
Below n xs = Each (λ x. x < n) xs

slot_values : (σ : Assignment) (f : Frame) (slots : List ℕ) → Below (length f) slots → map σ (vars_of_lem f slots) ≡ values_of (map σ f) slots
slot_values σ f [] h = refl
slot_values σ f (s ∷ slots) h =
    ap₂ (λ (v : Value) (vs : List Value). v ∷ vs) (sym (get_or-map σ f s 0 (number (pos 0)) h.0)) (slot_values σ f slots h.1)

-- the values of the slots' variables are the slots' values
pub frame_values :
    (σ : Assignment) (f : Frame) (slots : List ℕ) {p : ℕ} {vs : List Value}
    → length f ≡ p → map σ f ≡ vs → Below p slots → map σ (vars_of_lem f slots) ≡ values_of vs slots
frame_values σ f slots l e h =
    slot_values σ f slots (subst (λ (p : ℕ). Below p slots) (sym l) h) ∙ ap (λ (vs : List Value). values_of vs slots) e

-- the variables of slots in scope are among the frame's
pub slots_below : (n : ℕ) (f : Frame) (slots : List ℕ) {p : ℕ} → length f ≡ p → Below n f → Below p slots → Below n (vars_of_lem f slots)
slots_below n f [] l b h = tt
slots_below n f (s ∷ slots) l b h = (each_get_d (λ v. v < n) f s 0 (let k = h.0 in omega arith) b, slots_below n f slots l b h.1)

-- bounds on a frame's variables, later and with one more
pub below_later : (m n : ℕ) (f : Frame) → m ≤ n → Below m f → Below n f
below_later m n f h b = each_map (λ v. v < m) (λ v. v < n) (λ v k. omega arith) f b

pub below_push : (n : ℕ) (f : Frame) → Below n f → Below (suc n) (f ++ (n ∷ []))
below_push n f b = each_append (λ v. v < suc n) f (n ∷ []) (below_later n (suc n) f (omega arith) b) (omega arith, tt)

pub frame_push : (f : Frame) (n : ℕ) {p : ℕ} → length f ≡ p → length (f ++ (n ∷ [])) ≡ suc p
frame_push f n l = let e = length_push f n in omega arith

-- Two assignments agree on the variables below n.
abbrev pub Agrees : ℕ → Assignment → Assignment → Type 0
Agrees n σ τ = (v : ℕ) → v < n → σ v ≡ τ v

pub agree_map : (n : ℕ) (σ τ : Assignment) → Agrees n σ τ → (f : List ℕ) → Below n f → map σ f ≡ map τ f
agree_map n σ τ h [] b = refl
agree_map n σ τ h (v ∷ f) b = ap₂ (λ (v : Value) (vs : List Value). v ∷ vs) (h v b.0) (agree_map n σ τ h f b.1)

-- An assignment with another value at n.
abbrev pub put : Assignment → ℕ → Value → Assignment
put σ n v u = cond (eqb u n) v (σ u)

pub put_same : (σ : Assignment) (n : ℕ) (v : Value) → put σ n v n ≡ v
put_same σ n v = rw (eq-eqb n n refl)

pub put_other : (σ : Assignment) (n : ℕ) (v : Value) → Agrees n (put σ n v) σ
put_other σ n v u h = rw (ne_eqb u n (λ e. omega arith))

-- A constraint that is decided where the store stands. Assumes nothing.
use Rattle.std.proofs.Common.{◌≡◌, ℕ, zero, suc, ◌<◌, true, false, not, ◌&&◌, eqb, [], ◌∷◌, ◌++◌, sym, refl, ap, ◌∙◌, subst, ⊎_elim, arith}
use Rattle.std.proofs.lemmas.Bool.{and_from, and_parts, both_ways, cases_eq, eq-eqb, not-true}
use Rattle.bank.specs.Kinds.{Assignment}
use Rattle.trees.specs.declared.cells.Form.{Form}
use Rattle.trees.specs.declared.cells.Form.TheVariants.{Free, Number, Pair}
use Rattle.trees.specs.declared.cells.Equation.{Equation}
use Rattle.trees.specs.declared.tasks.Bind.{Bind}
use Rattle.trees.specs.declared.tasks.Merge.{Merge}
use Rattle.trees.specs.declared.tasks.Task.{Task}
use Rattle.trees.specs.declared.tasks.Task.TheVariants.{Equal, Has}
use Rattle.trees.specs.Stores.{Store, root_of_lem, form_at_lem, form_of, Fits, solves, Solves, Formed, Reached}
use Rattle.trees.specs.Values.{ready, deep, Sound}
use Rattle.trees.specs.Joins.{sides, clash, chosen, flat, leaf, shallow, Moved, Reformed, Joined, Solved}
use Rattle.trees.specs.Tasks.{asks, Asks, With, Started, Narrowed, Held, Refused}
use Rattle.trees.specs.laws.Solves.{solves_true, same_test, never_true}
use Rattle.trees.specs.laws.Shapes.{same_form_of, sound_alike}
use Rattle.trees.specs.laws.Depths.{ready_more, flat_ready}
use Rattle.trees.proofs.Meeting.{clashing}
use Rattle.trees.proofs.Joining.{united, united_deep}
use Rattle.trees.proofs.Grounding.{few_levels}
use Rattle.trees.proofs.Narrowing.{asks_from, with_true, shaped_start, narrows}

pub held : (r : Store) (t : Task) → ((σ : Assignment) → Solves r σ → Asks t σ) → Held r r t
held r t h = record {
  same = refl;
  always = λ σ. same_test (solves r σ) (solves r σ && asks t σ)
      (λ e. and_from (solves r σ) (asks t σ) e (asks_from t σ (h σ (solves_true r σ e)))) (λ e. (and_parts (solves r σ) (asks t σ) e).0);
}

pub refused : (r : Store) (t : Task) → ((σ : Assignment) → With r t σ → ⊥) → Refused r r t
refused r t h = record { same = refl; never = λ σ. never_true (solves r σ && asks t σ) (λ e. h σ (with_true r t σ e)) }

-- a variable, whose class a has the form f, is to have another
module _ (r : Store) (t : Bind) (a : ℕ) (f : Form) (is_a : a ≡ root_of_lem r t.x) (is_f : f ≡ form_at_lem r a) where
  is_form : form_of r t.x ≡ f
  is_form = ap (form_at_lem r) (sym is_a) ∙ sym is_f

  pub form_held : f ≡ t.form → Held r r (Has t)
  form_held e = held r (Has t) (λ σ o. subst (λ (k : Form). Fits σ k (σ t.x)) (is_form ∙ e) (o.form t.x t.within))

  pub form_refused : clash f t.form ≡ true → Refused r r (Has t)
  form_refused e = refused r (Has t) (λ σ o. clashing f t.form e σ (σ t.x) (subst (λ (k : Form). Fits σ k (σ t.x)) is_form (o.0.form t.x t.within)) o.1)

-- what leaves are
leaf_apart : (r : Store) (a y : ℕ) → leaf r a y ≡ true → root_of_lem r y ≡ a → ⊥
leaf_apart r a y e q = both_ways (eqb (root_of_lem r y) a) (not-true (eqb (root_of_lem r y) a) (and_parts (not (eqb (root_of_lem r y) a)) (flat (form_of r y)) e).0) (eq-eqb (root_of_lem r y) a q)

leaf_flat : (r : Store) (a y : ℕ) → leaf r a y ≡ true → flat (form_of r y) ≡ true
leaf_flat r a y e = (and_parts (not (eqb (root_of_lem r y) a)) (flat (form_of r y)) e).1

-- a free class takes a form whose sides are leaves
module _ (r q s : Store) (n a : ℕ) (t : Bind) (S : Sound r) (R : Reached r q n) (F : Formed q.used t.form)
    (is_a : a ≡ root_of_lem r t.x) (free : form_at_lem r a ≡ Free) (over : shallow r a t.form ≡ true) (W : Reformed a t.form q s) where
  form_in : (y : ℕ) → root_of_lem q y ≡ a → form_of s y ≡ t.form
  form_in y e = ap (form_at_lem s) (W.roots y ∙ e) ∙ W.here

  form_out : (y : ℕ) → (root_of_lem q y ≡ a → ⊥) → form_of s y ≡ form_of q y
  form_out y ne = ap (form_at_lem s) (W.roots y) ∙ W.there (root_of_lem q y) ne

  leaf_deep : (m y : ℕ) → leaf r a y ≡ true → deep s (suc m) y ≡ true
  unfolding deep
  leaf_deep m y e =
      let apart : root_of_lem q y ≡ a → ⊥ = λ k. leaf_apart r a y e (sym (R.alike.roots y) ∙ k) in
      ap (ready (deep s m)) (form_out y apart ∙ same_form_of r q R.alike y) ∙ flat_ready (deep s m) (form_of r y) (leaf_flat r a y e)

  over_ready : (m : ℕ) (h : Form) → shallow r a h ≡ true → ready (deep s (suc m)) h ≡ true
  over_ready m Free e = refl
  over_ready m (Number k) e = refl
  over_ready m (Pair y z) e =
      let parts = and_parts (leaf r a y) (leaf r a z) e in
      and_from (deep s (suc m) y) (deep s (suc m) z) (leaf_deep m y parts.0) (leaf_deep m z parts.1)

  one_deeper : (m y : ℕ) → deep q m y ≡ true → deep s (suc m) y ≡ true
  unfolding deep
  one_deeper zero y e = absurd (both_ways false refl e)
  one_deeper (suc m) y e = ⊎_elim
      (λ k. ap (ready (deep s (suc m))) (form_in y k) ∙ over_ready m t.form over)
      (λ ne. ap (ready (deep s (suc m))) (form_out y ne) ∙ ready_more (deep q m) (deep s (suc m)) (form_of q y) (one_deeper m) e)
      (cases_eq (root_of_lem q y) a)

  pub form_placed : Narrowed r s (Has t)
  form_placed =
      let Q = sound_alike r q R.alike R.more R.within S in
      let A : Started q s (Has t) [] =
      shaped_start q s t a Free t.form [] Q.shaped F (is_a ∙ sym (R.alike.roots t.x)) (sym (R.alike.forms a ∙ free)) refl refl refl W in
      narrows r q s s n (Has t) [] R A (record { shaped = A.shaped; used = refl; left = record { to = λ σ o. o.0; from = λ σ o. (o, tt) } })
      (few_levels s A.shaped 257 (λ y l. one_deeper 256 y (Q.levels y l)))

flat_sides : (f g : Form) → flat f ≡ true → [] ≡ sides f g ++ []
flat_sides Free g e = refl
flat_sides (Number k) g e = refl
flat_sides (Pair a b) g e = absurd (both_ways false refl e)

flat_chosen : (f g : Form) → flat f ≡ true → flat g ≡ true → flat (chosen f g) ≡ true
flat_chosen Free g e k = k
flat_chosen (Number z) g e k = refl
flat_chosen (Pair a b) g e k = e

-- two variables, whose classes a and b have the forms f and g, are to be equal
module _ (r : Store) (t : Merge) (a b : ℕ) (is_a : a ≡ root_of_lem r t.x) (is_b : b ≡ root_of_lem r t.y) where
  pub equal_held : a ≡ b → Held r r (Equal t)
  equal_held e = held r (Equal t) (λ σ o. o.same t.x t.first ∙ ap σ (sym is_a ∙ e ∙ is_b) ∙ sym (o.same t.y t.second))

  module _ (f g : Form) (is_f : f ≡ form_at_lem r a) (is_g : g ≡ form_at_lem r b) where
    pub equal_refused : clash f g ≡ true → Refused r r (Equal t)
    equal_refused e = refused r (Equal t) (λ σ o. clashing f g e σ (σ t.x)
        (subst (λ (k : Form). Fits σ k (σ t.x)) (ap (form_at_lem r) (sym is_a) ∙ sym is_f) (o.0.form t.x t.first))
        (subst (λ (k : Form). Fits σ k (σ t.x)) (ap (form_at_lem r) (sym is_b) ∙ sym is_g) (subst (λ v. Fits σ (form_of r t.y) v) (sym o.1) (o.0.form t.y t.second))))

    module _ (q s : Store) (n : ℕ) (S : Sound r) (R : Reached r q n) (ux : t.x < q.used) (uy : t.y < q.used) (apart : a ≡ b → ⊥) (c : clash f g ≡ false) (ff : flat f ≡ true) (fg : flat g ≡ true) where
      sound : Sound q
      sound = sound_alike r q R.alike R.more R.within S

      told : Equation
      told = record { x = t.x; y = t.y }

      finish : Joined q s told [] [] → ((m z : ℕ) → deep q m z ≡ true → deep s m z ≡ true) → Narrowed r s (Equal t)
      unfolding told
      finish J levels =
          let A : Started q q (Equal t) (told ∷ []) = record {
            shaped = sound.shaped;
            used = refl;
            named = ((ux, uy), tt);
            left = record { to = λ σ o. (o.0, (o.1, tt)); from = λ σ o. (o.0, o.1.0) };
            few = omega arith;
          } in
          let B : Solved q s (told ∷ []) = record {
            shaped = J.shaped;
            used = J.used;
            left = record { to = λ σ o. (J.left.to σ o).0; from = λ σ o. J.left.from σ (o, tt) };
          } in
          narrows r q q s n (Equal t) (told ∷ []) R A B (λ z l. levels 256 z (sound.levels z l))

      pub equal_united : (h : Form) → h ≡ chosen f g → (a < b → Moved b a h q s) → (b < a → Moved a b h q s) → Narrowed r s (Equal t)
      unfolding told
      equal_united h is_h up down =
          let A = is_a ∙ sym (R.alike.roots t.x) in
          let B = is_b ∙ sym (R.alike.roots t.y) in
          let P = is_f ∙ sym (R.alike.forms a) in
          let Q = is_g ∙ sym (R.alike.forms b) in
          let k : flat h ≡ true = ap flat is_h ∙ flat_chosen f g ff fg in
          finish
          (united q s sound.shaped told [] [] t.first t.second tt a b f g h A B P Q is_h c (flat_sides f g ff) apart up down)
          (united_deep q s sound.shaped told [] [] t.first t.second tt a b f g h A B P Q is_h c (flat_sides f g ff) apart up down k)

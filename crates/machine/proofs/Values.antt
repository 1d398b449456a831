-- From a way through a goal with a solution to a derivation, and back. Assumes nothing.
use Rattle.std.proofs.Common.{◌≡◌, ℕ, suc, ◌+◌, ◌*◌, ◌≤◌, true, List, [], ◌∷◌, ◌++◌, map, length, get_or, sym, refl, ap, ◌∙◌, subst, ap₂, le_refl, arith}
use lib.ListN.{length-map}
use Rattle.std.proofs.lemmas.List.{map_push}
use Rattle.bank.specs.Kinds.{Value, Kind, Assignment, Solves}
use Rattle.book.specs.Language.{Goal, Rules, Fits, WellFormed, rule_at}
use Rattle.machine.specs.Machine.{Side, left, right, Frame, vars_of_lem, told_at, Answer}
use Rattle.machine.specs.Derivations.{Deriv, told_true, both, by_left, by_right, with_value, by_rule, values_of, weight, choices, conj_weight}
use Rattle.machine.proofs.Rules.{own_rules_fit_lem}
use Rattle.machine.proofs.Frames.{Below, frame_values, slots_below, below_later, below_push, frame_push, Agrees, agree_map, put, put_same, put_other}
use Rattle.machine.proofs.Shapes.{Shape, s_tell, s_conj, s_left, s_right, s_fresh, s_call, leads, shape_weight, shape_choices, chosen, widened}
use Rattle.machine.proofs.Solutions.{told_split, told_join, wide_split, wide_join, solves_back}

-- Whether an assignment solves the answer turns on the answer's variables alone.
abbrev pub Local : Kind → Answer → Type 0
Local K a = (σ τ : Assignment) → Agrees a.n σ τ → Solves K a.n a.told σ → Solves K a.n a.told τ

pub wide_local : (K : Kind) (a : Answer) → Local K a → Local K (widened a)
wide_local K a loc σ τ h y =
    let parts = wide_split K σ a.n a.told y in
    wide_join K τ a.n a.told (rw (h a.n (omega arith)) at parts.0) (loc σ τ (λ v l. h v (omega arith)) parts.1)

module _ (K : Kind) (rules : Rules) (wf : WellFormed rules) where
  -- a shape whose end has a solution is a derivation of the values there
  pub derive :
      {g : Goal} (s : Shape rules g) (σ : Assignment) (f : Frame) (a : Answer) (p : ℕ) (vs : List Value)
      → Fits rules p g → length f ≡ p → map σ f ≡ vs → Solves K (leads s f a).n (leads s f a).told σ
      → (D : Deriv K rules g vs) × (choices D ≡ shape_choices s)
  derive (s_tell {code} {k} {slots}) σ f a p vs fits l e h =
      let holds = (told_split K σ a.n a.told (told_at code k slots f) h).1 in
      (told_true (subst (λ (us : List Value). K.holds code k us ≡ true) (frame_values σ f slots l e fits) holds), refl)
  derive (s_conj s t) σ f a p vs fits l e h =
      let d₁ = derive s σ f a p vs fits.0 l e (solves_back K σ t f (leads s f a) h) in
      let d₂ = derive t σ f (leads s f a) p vs fits.1 l e h in
      (both d₁.0 d₂.0, ap₂ (λ (x y : List Side). x ++ y) d₁.1 d₂.1)
  derive (s_left s) σ f a p vs fits l e h =
      let d = derive s σ f (chosen a left) p vs fits.0 l e h in
      (by_left d.0, ap {B = List Side} (λ r. left ∷ r) d.1)
  derive (s_right s) σ f a p vs fits l e h =
      let d = derive s σ f (chosen a right) p vs fits.1 l e h in
      (by_right d.0, ap {B = List Side} (λ r. right ∷ r) d.1)
  derive (s_fresh s) σ f a p vs fits l e h =
      let f' = f ++ (a.n ∷ []) in
      let v = σ a.n in
      let d = derive s σ f' (widened a) (suc p) (vs ++ (v ∷ [])) fits (frame_push f a.n l) (map_push σ f a.n ∙ ap (λ (r : List Value). r ++ (v ∷ [])) e) h in
      (with_value v (wide_split K σ a.n a.told (solves_back K σ s f' (widened a) h)).0 d.0, d.1)
  derive (s_call {r} {slots} s) σ f a p vs fits l e h =
      let d = derive s σ (vars_of_lem f slots) a (rule_at rules r).params (values_of vs slots) (own_rules_fit_lem rules wf r fits.0) (length-map slots (λ s. get_or f s 0) ∙ fits.1) (frame_values σ f slots l e fits.2) h in
      (by_rule d.0, d.1)

  -- variables only come
  leads_grows : {g : Goal} (s : Shape rules g) (f : Frame) (a : Answer) → a.n ≤ (leads s f a).n
  leads_grows s_tell f a = le_refl a.n
  leads_grows (s_conj s t) f a = let i = leads_grows s f a in let j = leads_grows t f (leads s f a) in omega arith
  leads_grows (s_left s) f a = leads_grows s f (chosen a left)
  leads_grows (s_right s) f a = leads_grows s f (chosen a right)
  leads_grows (s_fresh s) f a = let i = leads_grows s (f ++ (a.n ∷ [])) (widened a) in omega arith
  leads_grows (s_call {slots = slots} s) f a = leads_grows s (vars_of_lem f slots) a

  -- a shape speaks of its answer's variables alone
  pub leads_local :
      {g : Goal} (s : Shape rules g) (f : Frame) (a : Answer) (p : ℕ)
      → Fits rules p g → length f ≡ p → Below a.n f → Local K a → Local K (leads s f a)
  leads_local (s_tell {code} {k} {slots}) f a p fits l b loc = λ σ τ h y.
      let parts = told_split K σ a.n a.told (told_at code k slots f) y in
      told_join K τ a.n a.told (told_at code k slots f) (loc σ τ h parts.0)
      (subst (λ (us : List Value). K.holds code k us ≡ true) (agree_map a.n σ τ h (vars_of_lem f slots) (slots_below a.n f slots l b fits)) parts.1)
  leads_local (s_conj s t) f a p fits l b loc =
      leads_local t f (leads s f a) p fits.1 l (below_later _ _ f (leads_grows s f a) b) (leads_local s f a p fits.0 l b loc)
  leads_local (s_left s) f a p fits l b loc = leads_local s f (chosen a left) p fits.0 l b loc
  leads_local (s_right s) f a p fits l b loc = leads_local s f (chosen a right) p fits.1 l b loc
  leads_local (s_fresh s) f a p fits l b loc =
      leads_local s (f ++ (a.n ∷ [])) (widened a) (suc p) fits (frame_push f a.n l) (below_push a.n f b) (wide_local K a loc)
  leads_local (s_call {r} {slots} s) f a p fits l b loc =
      leads_local s (vars_of_lem f slots) a (rule_at rules r).params (own_rules_fit_lem rules wf r fits.0) (length-map slots (λ s. get_or f s 0) ∙ fits.1) (slots_below a.n f slots l b fits.2) loc

module _ {K : Kind} {rules : Rules} where
  -- A derivation's shape.
  abbrev pub shape : {g : Goal} {vs : List Value} → Deriv K rules g vs → Shape rules g
  shape (told_true h) = s_tell
  shape (both d e) = s_conj (shape d) (shape e)
  shape (by_left d) = s_left (shape d)
  shape (by_right d) = s_right (shape d)
  shape (with_value v h d) = s_fresh (shape d)
  shape (by_rule d) = s_call (shape d)

  pub weight_of_shape : {g : Goal} {vs : List Value} (D : Deriv K rules g vs) → shape_weight (shape D) ≡ weight D
  weight_of_shape (told_true h) = refl
  weight_of_shape (both d e) = ap₂ conj_weight (weight_of_shape d) (weight_of_shape e)
  weight_of_shape (by_left d) = ap (λ (w : ℕ). 2 * w) (weight_of_shape d)
  weight_of_shape (by_right d) = ap (λ (w : ℕ). 2 * w + 1) (weight_of_shape d)
  weight_of_shape (with_value v h d) = ap (λ (w : ℕ). w + 1) (weight_of_shape d)
  weight_of_shape (by_rule d) = ap (λ (w : ℕ). w + 1) (weight_of_shape d)

  pub choices_of_shape : {g : Goal} {vs : List Value} (D : Deriv K rules g vs) → shape_choices (shape D) ≡ choices D
  choices_of_shape (told_true h) = refl
  choices_of_shape (both d e) = ap₂ (λ (x y : List Side). x ++ y) (choices_of_shape d) (choices_of_shape e)
  choices_of_shape (by_left d) = ap {B = List Side} (λ r. left ∷ r) (choices_of_shape d)
  choices_of_shape (by_right d) = ap {B = List Side} (λ r. right ∷ r) (choices_of_shape d)
  choices_of_shape (with_value v h d) = choices_of_shape d
  choices_of_shape (by_rule d) = choices_of_shape d

module _ (K : Kind) (rules : Rules) (wf : WellFormed rules) where
  -- The values of a derivation as a solution at the end of its shape, which leaves the variables before as they are.
  abbrev Placed : {g : Goal} → Shape rules g → Frame → Answer → Assignment → Type 0
  Placed s f a σ = (τ : Assignment) × Agrees a.n τ σ × Solves K (leads s f a).n (leads s f a).told τ

  pub place :
      {g : Goal} {vs : List Value} (D : Deriv K rules g vs) (f : Frame) (a : Answer) (p : ℕ) (σ : Assignment)
      → Fits rules p g → length f ≡ p → Below a.n f → map σ f ≡ vs → Local K a → Solves K a.n a.told σ
      → Placed (shape D) f a σ
  place (told_true {code} {k} {slots} h) f a p σ fits l b e loc y =
      (σ, λ v h. refl, told_join K σ a.n a.told (told_at code k slots f) y (subst (λ (us : List Value). K.holds code k us ≡ true) (sym (frame_values σ f slots l e fits)) h))
  place (both d₁ d₂) f a p σ fits l b e loc y =
      let s = shape d₁ in
      let p₁ = place d₁ f a p σ fits.0 l b e loc y in
      let grows = leads_grows K rules wf s f a in
      let p₂ = place d₂ f (leads s f a) p p₁.0 fits.1 l (below_later _ _ f grows b)
      (agree_map a.n p₁.0 σ p₁.1 f b ∙ e) (leads_local K rules wf s f a p fits.0 l b loc) p₁.2 in
      (p₂.0, λ v h. p₂.1 v (omega arith) ∙ p₁.1 v h, p₂.2)
  place (by_left d) f a p σ fits l b e loc y = place d f (chosen a left) p σ fits.0 l b e loc y
  place (by_right d) f a p σ fits l b e loc y = place d f (chosen a right) p σ fits.1 l b e loc y
  place (with_value {vs = vs} v h d) f a p σ fits l b e loc y =
      let n = a.n in
      let τ = put σ n v in
      let q = place d (f ++ (n ∷ [])) (widened a) (suc p) τ fits (frame_push f n l) (below_push n f b)
      (map_push τ f n ∙ ap₂ (λ (us : List Value) (u : Value). us ++ (u ∷ [])) (agree_map n τ σ (put_other σ n v) f b ∙ e) (put_same σ n v))
      (wide_local K a loc)
      (wide_join K τ n a.told (ap K.admits (put_same σ n v) ∙ h) (loc σ τ (λ u k. sym (put_other σ n v u k)) y)) in
      (q.0, λ u k. q.1 u (omega arith) ∙ put_other σ n v u k, q.2)
  place (by_rule {r} {slots} d) f a p σ fits l b e loc y =
      place d (vars_of_lem f slots) a (rule_at rules r).params σ (own_rules_fit_lem rules wf r fits.0) (length-map slots (λ s. get_or f s 0) ∙ fits.1) (slots_below a.n f slots l b fits.2) (frame_values σ f slots l e fits.2) loc y

-- A shape is a way through a goal: a derivation without its values. The machine follows shapes, whatever the values are. Assumes nothing.
use Rattle.std.proofs.Common.{◌≡◌, ℕ, suc, ◌+◌, ◌*◌, List, [], ◌∷◌, ◌++◌, ℤ, sym, ◌∙◌, append_assoc, append-nil}
use Rattle.bank.specs.Kinds.{Condition}
use Rattle.book.specs.Language.{Goal, tell, conj, disj, fresh, call, Rules, rule_at}
use Rattle.machine.specs.Machine.{Side, left, right, Frame, vars_of_lem, told_at, Answer}
use Rattle.machine.specs.Derivations.{conj_weight}

pub data Shape (rules : Rules) : Goal → Type 0 where
  s_tell : {code : ℕ} {k : ℤ} {slots : List ℕ} → Shape rules (tell code k slots)
  s_conj : {g h : Goal} → Shape rules g → Shape rules h → Shape rules (conj g h)
  s_left : {g h : Goal} → Shape rules g → Shape rules (disj g h)
  s_right : {g h : Goal} → Shape rules h → Shape rules (disj g h)
  s_fresh : {g : Goal} → Shape rules g → Shape rules (fresh g)
  s_call : {r : ℕ} {slots : List ℕ} → Shape rules (rule_at rules r).goal → Shape rules (call r slots)

-- An answer with one more choice, one more variable, one more condition.
abbrev pub chosen : Answer → Side → Answer
chosen a s = record { n = a.n; told = a.told; choices = a.choices ++ (s ∷ []) }

abbrev pub widened : Answer → Answer
widened a = record { n = suc a.n; told = a.told; choices = a.choices }

abbrev pub with_told : Answer → Condition → Answer
with_told a c = record { n = a.n; told = a.told ++ (c ∷ []); choices = a.choices }

module _ {rules : Rules} where
  -- What a derivation of the shape weighs, and its choices.
  abbrev pub shape_weight : {g : Goal} → Shape rules g → ℕ
  shape_weight s_tell = 1
  shape_weight (s_conj s t) = conj_weight (shape_weight s) (shape_weight t)
  shape_weight (s_left s) = 2 * shape_weight s
  shape_weight (s_right s) = 2 * shape_weight s + 1
  shape_weight (s_fresh s) = shape_weight s + 1
  shape_weight (s_call s) = shape_weight s + 1

  abbrev pub shape_choices : {g : Goal} → Shape rules g → List Side
  shape_choices s_tell = []
  shape_choices (s_conj s t) = shape_choices s ++ shape_choices t
  shape_choices (s_left s) = left ∷ shape_choices s
  shape_choices (s_right s) = right ∷ shape_choices s
  shape_choices (s_fresh s) = shape_choices s
  shape_choices (s_call s) = shape_choices s

  -- The answer to which the shape leads from another, in a frame.
  abbrev pub leads : {g : Goal} → Shape rules g → Frame → Answer → Answer
  leads (s_tell {code} {k} {slots}) f a = with_told a (told_at code k slots f)
  leads (s_conj s t) f a = leads t f (leads s f a)
  leads (s_left s) f a = leads s f (chosen a left)
  leads (s_right s) f a = leads s f (chosen a right)
  leads (s_fresh s) f a = leads s (f ++ (a.n ∷ [])) (widened a)
  leads (s_call {slots = slots} s) f a = leads s (vars_of_lem f slots) a

  -- the choices on the way are the shape's
  pub leads_choices : {g : Goal} (s : Shape rules g) (f : Frame) (a : Answer) → (leads s f a).choices ≡ a.choices ++ shape_choices s
  leads_choices s_tell f a = sym (append-nil a.choices)
  leads_choices (s_conj s t) f a = leads_choices t f (leads s f a) ∙ rw (leads_choices s f a) (append_assoc a.choices _ _)
  leads_choices (s_left s) f a = leads_choices s f (chosen a left) ∙ append_assoc a.choices _ _
  leads_choices (s_right s) f a = leads_choices s f (chosen a right) ∙ append_assoc a.choices _ _
  leads_choices (s_fresh s) f a = leads_choices s (f ++ (a.n ∷ [])) (widened a)
  leads_choices (s_call {slots = slots} s) f a = leads_choices s (vars_of_lem f slots) a

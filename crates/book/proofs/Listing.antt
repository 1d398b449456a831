-- One line more in a draft. Assumes nothing.
use Rattle.std.proofs.Common.{◌≡◌, ℕ, List, [], ◌∷◌, ◌++◌, map, sym, refl, ap, ◌∙◌, append-nil, append_assoc}
use Rattle.std.proofs.lemmas.List.{map_push}
use Rattle.line.specs.declared.Line.TheVariants.{Rule}
use Rattle.line.specs.Statements.{Statement, a_rule, a_tell, an_and, an_or, a_new, a_call}
use Rattle.book.specs.declared.drafts.Listed.{Listed}
use Rattle.book.specs.Lists.{entry_of}
use Rattle.book.specs.Reading.{Entry, heads}

pub head_first : (st : Statement) (s : ℕ) (es : List Entry) → heads (record { says = st; scope = s } ∷ es) ≡ heads (record { says = st; scope = s } ∷ []) ++ heads es
head_first (a_rule p) s es = refl
head_first (a_tell code k slots) s es = refl
head_first an_and s es = refl
head_first an_or s es = refl
head_first a_new s es = refl
head_first (a_call r slots) s es = refl

pub heads_push : (es : List Entry) (e : Entry) → heads (es ++ e ∷ []) ≡ heads es ++ heads (e ∷ [])
heads_push [] e = refl
heads_push (x ∷ es) e =
    head_first x.says x.scope (es ++ e ∷ []) ∙ ap (λ hs. heads (x ∷ []) ++ hs) (heads_push es e) ∙ sym (append_assoc (heads (x ∷ [])) (heads es) (heads (e ∷ []))) ∙ ap (λ hs. hs ++ heads (e ∷ [])) (sym (head_first x.says x.scope es))

-- the heads of rules, with one line more
module _ (ls : List Listed) where
  added : (l : Listed) → heads (map entry_of (ls ++ l ∷ [])) ≡ heads (map entry_of ls) ++ heads (entry_of l ∷ [])
  added l = ap heads (map_push entry_of ls l) ∙ heads_push (map entry_of ls) (entry_of l)

  pub goal_added : (l : Listed) → heads (entry_of l ∷ []) ≡ [] → heads (map entry_of (ls ++ l ∷ [])) ≡ heads (map entry_of ls)
  goal_added l none = added l ∙ ap (λ hs. heads (map entry_of ls) ++ hs) none ∙ append-nil (heads (map entry_of ls))

  pub rule_added : (p : ℕ) → heads (map entry_of (ls ++ record { line = Rule p; scope = p } ∷ [])) ≡ heads (map entry_of ls) ++ p ∷ []
  rule_added p = added (record { line = Rule p; scope = p })

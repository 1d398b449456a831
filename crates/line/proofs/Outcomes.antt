-- The outcome of a line whose word was read, by the fields behind it. Assumes nothing.
use Rattle.std.proofs.Common.{◌≡◌, ℕ, ◌+◌, true, false, List, length, drop, Ok, sym, ap, ◌∙◌}
use Rattle.std.proofs.lemmas.Bool.{cond-true, cond-false}
use Rattle.line.specs.declared.Fault.TheVariants.{FieldCount}
use Rattle.line.specs.declared.Word.{Word}
use Rattle.line.specs.Reading.{wrong, takes, first_word, and_then, numbered, counted, outcome}

-- gs are the fields behind the word w, and m is the number of its own
module _ (n m : ℕ) (fs gs : List (List ℕ)) (w : Word) (word : Ok w ≡ first_word fs) (behind : gs ≡ drop 1 fs) (number : m ≡ n + 1) where
  outcome_counted : outcome n fs ≡ counted w m gs
  outcome_counted =
      ap (λ r. and_then r (λ w. counted w (n + 1) (drop 1 fs))) (sym word) ∙ (λ i. counted w (sym number i) (sym behind i))

  pub outcome_numbered : takes w (length gs) ≡ true → outcome n fs ≡ numbered w m gs
  outcome_numbered count = outcome_counted ∙ cond-true (takes w (length gs)) (numbered w m gs) (wrong FieldCount) count

  pub outcome_count : takes w (length gs) ≡ false → outcome n fs ≡ wrong FieldCount
  outcome_count count = outcome_counted ∙ cond-false (takes w (length gs)) (numbered w m gs) (wrong FieldCount) count

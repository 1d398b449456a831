-- A field is read as a word exactly if it spells this word. Assumes nothing.
use Rattle.std.proofs.Common.{◌≡◌, ℕ, List, Some, None, codes, Option}
use Rattle.std.specs.Str.{bytes_eq}
use Rattle.std.proofs.lemmas.Slice.Eq.{bytes_eq-Decides}
use Rattle.std.proofs.lemmas.Bool.{cond_both}
use Rattle.line.specs.Reading.{word_of}
use Rattle.line.specs.declared.Word.{Word}
use Rattle.line.specs.declared.Word.TheVariants.{Rule, And, Or, New, Call, Tell}

abbrev pub spelling : Word → List ℕ
spelling Rule = codes "rule"
spelling And = codes "and"
spelling Or = codes "or"
spelling New = codes "new"
spelling Call = codes "call"
spelling Tell = codes "tell"

abbrev pub Spelled : List ℕ → Option Word → Type 0
Spelled f (Some w) = f ≡ spelling w
Spelled f None = Unit {0}

pub spelled : (f : List ℕ) → Spelled f (word_of f)
spelled f =
    cond_both (bytes_eq f (codes "rule")) (Some Rule) _ (Spelled f) (λ e. (bytes_eq-Decides f (codes "rule")).0 e)
    (λ _. cond_both (bytes_eq f (codes "and")) (Some And) _ (Spelled f) (λ e. (bytes_eq-Decides f (codes "and")).0 e)
    (λ _. cond_both (bytes_eq f (codes "or")) (Some Or) _ (Spelled f) (λ e. (bytes_eq-Decides f (codes "or")).0 e)
    (λ _. cond_both (bytes_eq f (codes "new")) (Some New) _ (Spelled f) (λ e. (bytes_eq-Decides f (codes "new")).0 e)
    (λ _. cond_both (bytes_eq f (codes "call")) (Some Call) _ (Spelled f) (λ e. (bytes_eq-Decides f (codes "call")).0 e)
    (λ _. cond_both (bytes_eq f (codes "tell")) (Some Tell) None (Spelled f) (λ e. (bytes_eq-Decides f (codes "tell")).0 e) (λ _. tt))))))

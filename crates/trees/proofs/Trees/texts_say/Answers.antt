use Rattle.std.proofs.Common.{ℕ, List, length, sym, subst}
use Rattle.records.specs.Vacant.{vacant}
use Rattle.bank.specs.Kinds.{Solutions}
use Rattle.trees.specs.Stores.{solves}
use Rattle.trees.specs.Meaning.{means}
use Rattle.trees.specs.Says.{Says}
use Rattle.trees.specs.laws.Fillings.{says}
use Rattle.trees.specs.laws.All.{its_record, its_solutions, its_texts, is_sound}
use Rattle.trees.proofs.Trees.texts_say.Goals as goal

pub returns : goal.returns
returns c s x l h =
    let slots = c.args.self.now.slots.now in
    let p = length (vacant c.args.self.now.vacancies) in
    let kept = c.args.self.now.kept in
    let r = its_record (λ (u : Unit {0}). slots) (λ u. p) (λ u. kept) tt s l in
    subst (λ (f : Solutions). Says f ((means slots p).text s) x) (sym (its_solutions (λ (u : Unit {0}). slots) (λ u. p) (λ u. kept) tt s l))
    (subst (λ (f : ℕ → List ℕ). Says (solves r) f x) (sym (its_texts (λ (u : Unit {0}). slots) (λ u. p) (λ u. kept) tt s l)) (says r (is_sound (λ (u : Unit {0}). slots) (λ u. p) (λ u. kept) tt s l) x h))

use Rattle.std.proofs.Common.{[], ◌∷◌, ◌++◌, map, length, sym, ap, ◌∙◌, arith}
use Rattle.std.proofs.lemmas.List.{length_push}
use Rattle.row.specs.Shorts.{items}
use Rattle.line.specs.declared.Line.TheVariants.{Rule}
use Rattle.book.specs.declared.drafts.Listed.{Listed}
use Rattle.book.specs.Lists.{entry_of}
use Rattle.book.specs.Reading.{heads}
use Rattle.book.proofs.Listing.{rule_added}
use Rattle.book.proofs.drafts.Draft.add_rule.Goals as goal

pub invariant_of-self : goal.invariant_of-self
invariant_of-self c =
    let d = c.args.self.now in
    let p = c.args.params in
    let l : Listed = record { line = Rule p; scope = p } in
    record {
      headed = c.push-2.ensures ∙ ap (λ hs. hs ++ p ∷ []) d.headed ∙ sym (ap (λ ls. heads (map entry_of ls)) c.push.ensures ∙ rule_added (items d.listed) p);
      few_goals = omega (arith, d.few_goals, ap length c.push.ensures, length_push (items d.listed) l, ap length c.push-2.ensures, length_push (items d.params) p);
    }

use Rattle.std.proofs.Common.{map, length, sym, refl, ap, ◌∙◌, arith}
use Rattle.std.proofs.lemmas.List.{length_push}
use Rattle.row.specs.Shorts.{items}
use Rattle.book.specs.declared.drafts.Listed.{Listed}
use Rattle.book.specs.Lists.{entry_of}
use Rattle.book.specs.Reading.{heads}
use Rattle.book.proofs.Built.{rules_few}
use Rattle.book.proofs.Listing.{goal_added}
use Rattle.book.proofs.drafts.Draft.add_goal.Goals as goal

pub invariant_of-self : goal.invariant_of-self
invariant_of-self c =
    let d = c.args.self.now in
    let l : Listed = record { line = c.args.line; scope = c.args.scope } in
    record {
      headed = d.headed ∙ sym (ap (λ ls. heads (map entry_of ls)) c.push.ensures ∙ goal_added (items d.listed) l c.requires.goal);
      few_goals = omega (arith, ap length c.push.ensures, length_push (items d.listed) l, rules_few d, c.requires.few);
    }

pub returns-clause-counts : goal.returns-clause-counts
returns-clause-counts c =
    let d = c.args.self.now in
    (refl, omega (arith, ap length c.push.ensures, length_push (items d.listed) (record { line = c.args.line; scope = c.args.scope }), rules_few d))

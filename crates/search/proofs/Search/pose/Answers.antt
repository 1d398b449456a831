-- A rule is posed, or no store is spare. Assumes nothing.
use Rattle.std.proofs.Common.{length, None, Some, arith, rules}
use Rattle.std.proofs.lemmas.Result.{err_from_is_err_and}
use Rattle.book.specs.Meaning.{book_nodes}
use Rattle.search.specs.Unknowns.{Unknown}
use Rattle.search.proofs.Posing.{asked_of, holding, posing, not_posing}
use Rattle.search.proofs.Unknowns.{first_unknown}
use Rattle.search.proofs.Runs.{same_none_left}
use Rattle.search.proofs.Search.pose.Goals as goal

pub empty-requires : goal.empty-requires
empty-requires g c = holding g.B.Bank.view _ c.self.invariant

pub invariant_of-self : goal.invariant_of-self
invariant_of-self g c =
    let a = asked_of g.B.Bank.view.kind c.args.book.now c.args.rule c.rule-asked.result (omega (arith, c.if-rule-rule_count.false, c.rule_count.ensures.means)) c.rule_count.ensures.well (first_unknown g.B.Bank.view.kind (book_nodes c.args.book.now) None c.in_default.ensures) c.rule-asked.ensures.rooted c.rule-asked.ensures.means in
    (not_posing g.B.Bank.view _ c.self.invariant _ _ _ _ c.empty.ensures.does c.empty.ensures.none _ _ _ _ _ c.empty.ensures.idle a c.in_err-store.ensures).good

pub invariant_of-self-2 : goal.invariant_of-self-2
invariant_of-self-2 g c =
    let a = asked_of g.B.Bank.view.kind c.args.book.now c.args.rule c.rule-asked.result (omega (arith, c.if-rule-rule_count.false, c.rule_count.ensures.means)) c.rule_count.ensures.well (first_unknown g.B.Bank.view.kind (book_nodes c.args.book.now) None c.in_default.ensures) c.rule-asked.ensures.rooted c.rule-asked.ensures.means in
    rw c.from.ensures ((posing g.B.Bank.view _ c.self.invariant _ _ _ _ c.empty.ensures.does c.empty.ensures.none _ _ _ _ _ _ a c.first-frame.ensures c.in_ok-store.ensures).good)

pub returns-in-Some-clause-does : goal.returns-in-Some-clause-does
returns-in-Some-clause-does g c =
    let u : Unknown g.B.Bank.view.kind (book_nodes c.args.book.now) (length (book_nodes c.args.book.now)) c.in-Some.line =
    first_unknown g.B.Bank.view.kind (book_nodes c.args.book.now) (Some c.in-Some.line) c.in-Some.ensures in
    search (u, rules)

pub returns-in_err-store : goal.returns-in_err-store
returns-in_err-store g c =
    let p = err_from_is_err_and c.from_residual.result c.from_residual.ensures.1 in
    let a = asked_of g.B.Bank.view.kind c.args.book.now c.args.rule c.rule-asked.result (omega (arith, c.if-rule-rule_count.false, c.rule_count.ensures.means)) c.rule_count.ensures.well (first_unknown g.B.Bank.view.kind (book_nodes c.args.book.now) None c.in_default.ensures) c.rule-asked.ensures.rooted c.rule-asked.ensures.means in
    let k = not_posing g.B.Bank.view _ c.self.invariant _ _ _ _ c.empty.ensures.does c.empty.ensures.none _ _ _ _ _ c.empty.ensures.idle a c.in_err-store.ensures in
    rw (p.1, p.2, ← c.self.view_is) record { good = k.good; does = (k.refused, k.same); none_left = same_none_left g.B.Bank.view _ _ k.same }

pub returns : goal.returns
returns g c =
    let a = asked_of g.B.Bank.view.kind c.args.book.now c.args.rule c.rule-asked.result (omega (arith, c.if-rule-rule_count.false, c.rule_count.ensures.means)) c.rule_count.ensures.well (first_unknown g.B.Bank.view.kind (book_nodes c.args.book.now) None c.in_default.ensures) c.rule-asked.ensures.rooted c.rule-asked.ensures.means in
    let k = posing g.B.Bank.view _ c.self.invariant _ _ _ _ c.empty.ensures.does c.empty.ensures.none _ _ _ _ _ _ a c.first-frame.ensures c.in_ok-store.ensures in
    rw (c.from.ensures, ← c.self.view_is) record { good = k.good; does = k.does; none_left = k.none_left }

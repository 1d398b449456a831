use Rattle.std.proofs.Common.{rules, arith}
use Rattle.stack.specs.Items.{items}
use Rattle.trees.specs.laws.Shapes.{shaped_alike}
use Rattle.trees.proofs.Writing.{reached}
use Rattle.trees.proofs.Narrowing.{few_classes, proper_more, never_narrow, narrows}
use Rattle.trees.proofs.store.narrow.Goals as goal

pub start-requires : goal.start-requires
start-requires c =
    let R = (reached c.args.r.now c.reach.new.self c.span.result c.requires.shaped.used c.span.ensures.few c.reach.ensures) in
    let s = c.new-s.ensures in
    record {
      shaped = shaped_alike c.args.r.now c.reach.new.self R.alike R.more R.within c.requires.shaped;
      proper = proper_more c.span.result c.reach.new.self.used c.args.t R.covers c.span.ensures.all;
      empty = s.empty;
      room = omega (arith, s.room);
    }

pub returns-in_err-start : goal.returns-in_err-start
returns-in_err-start c =
    let never = never_narrow c.args.r.now c.reach.new.self c.span.result c.args.t (reached c.args.r.now c.reach.new.self c.span.result c.requires.shaped.used c.span.ensures.few c.reach.ensures) c.in_err-start.ensures.started in
    search rules

pub resolve-requires : goal.resolve-requires
resolve-requires c =
    let A = c.in_ok-start.ensures.started in
    let few = few_classes c.start.new.r in
    record {
      shaped = A.shaped;
      pending = A.named;
      room = omega (arith, few, A.few, c.start.ensures.room, c.new-s.ensures.room);
    }

pub returns-in_err-resolve : goal.returns-in_err-resolve
returns-in_err-resolve c =
    let A = c.in_ok-start.ensures.started in
    let never = never_narrow c.args.r.now c.reach.new.self c.span.result c.args.t (reached c.args.r.now c.reach.new.self c.span.result c.requires.shaped.used c.span.ensures.few c.reach.ensures) (λ σ o. c.in_err-resolve.ensures σ (A.left.to σ o)) in
    search rules

pub returns-then-grounded : goal.returns-then-grounded
returns-then-grounded c =
    narrows c.args.r.now c.reach.new.self c.start.new.r c.resolve.new.r c.span.result c.args.t (items c.start.new.s)
    (reached c.args.r.now c.reach.new.self c.span.result c.requires.shaped.used c.span.ensures.few c.reach.ensures) c.in_ok-start.ensures.started c.in_ok-resolve.ensures c.if-grounded.ensures

pub returns-else-grounded : goal.returns-else-grounded
returns-else-grounded c =
    let A = c.in_ok-start.ensures.started in
    never_narrow c.args.r.now c.reach.new.self c.span.result c.args.t (reached c.args.r.now c.reach.new.self c.span.result c.requires.shaped.used c.span.ensures.few c.reach.ensures) (λ σ o. c.if-grounded.ensures σ (c.in_ok-resolve.ensures.left.to σ (A.left.to σ o)))

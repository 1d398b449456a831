use Rattle.std.proofs.Common.{◌≡◌, [], ◌∷◌, ◌++◌, length, ap, ◌∙◌, arith}
use Rattle.row.specs.Shorts.{items}
use Rattle.row.proofs.Shorts.{items_few}
use Rattle.book.proofs.Built.{built_start, goal_line, line_few, plants_here, room_here, goal_built, rule_fits, rule_built, all_rooted, all_called, all_rules}
use Rattle.book.proofs.build.build.Goals as goal

pub loop-at-init : goal.loop-at-init
loop-at-init c =
    let d = c.args.draft.now in
    let left : c.into_iter-at-iterator.result.iter.iter.rest.now ≡ items d.listed = cc (c.into_iter-at-iterator.ensures.into_iter_gives, c.rev-at-items.ensures.source, c.enumerate.ensures.source, c.iter.ensures.rest, c.as_slice.ensures) in
    let none : c.into_iter-at-iterator.result.iter.count ≡ 0 = cc (c.into_iter-at-iterator.ensures.into_iter_gives, c.rev-at-items.ensures.source, c.enumerate.ensures.count) in
    record {
      steps = (tt, tt, omega (arith, none, ap length left, items_few d.listed));
      ends = tt;
      counted = none;
      built = built_start d _ c.empty-table.result c.new-rules.result c.new-roots.result left c.empty-table.ensures c.new-rules.ensures c.new-roots.ensures.empty c.new-roots.ensures.room;
    }

pub push-requires : goal.push-requires
push-requires c =
    let l = c.loop-at.invariant in
    let step = c.in-Some.ensures.steps.1 in
    (omega arith, rule_fits c.args.draft.now (record { last = step.0; number = step.1; none = l.counted }) l.built c.in-Rule.params c.in-Rule.is)

pub loop-at-preserved-in-Rule : goal.loop-at-preserved-in-Rule
loop-at-preserved-in-Rule c =
    let l = c.loop-at.invariant in
    let steps = c.in-Some.ensures.steps in
    let step = steps.1 in
    let told = c.waiting-goal.ensures in
    let pushed = c.push.ensures ∙ ap (λ g. items c.loop-at.rules ++ record { params = c.in-Rule.params; goal = g } ∷ []) told.value in
    record {
      steps = (tt, tt, omega (arith, steps.0, step.1, step.2));
      ends = tt;
      counted = steps.0 ∙ l.counted;
      built = rule_built c.args.draft.now (record { last = step.0; number = step.1; none = l.counted }) l.built c.in-Rule.params c.in-Rule.is c.requires.passed c.push.new.self c.waiting-goal.new.roots pushed told.left told.room;
    }

pub overflow_cast-at : goal.overflow_cast-at
overflow_cast-at c =
    let l = c.loop-at.invariant in
    let step = c.in-Some.ensures.steps.1 in
    omega (arith, line_few c.args.draft.now (record { last = step.0; number = step.1; none = l.counted }) l.built)

pub overflow_add-at : goal.overflow_add-at
overflow_add-at c =
    let l = c.loop-at.invariant in
    let step = c.in-Some.ensures.steps.1 in
    omega (arith, line_few c.args.draft.now (record { last = step.0; number = step.1; none = l.counted }) l.built)

pub plant-requires : goal.plant-requires
plant-requires c =
    let d = c.args.draft.now in
    let l = c.loop-at.invariant in
    let step = c.in-Some.ensures.steps.1 in
    let goal = goal_line c.in-Some.listed.now.line c.in_default.not-Rule in
    let plants = plants_here d (record { last = step.0; number = step.1; none = l.counted }) l.built c.requires.passed c.requires.fitting goal in
    let room = room_here d (record { last = step.0; number = step.1; none = l.counted }) l.built goal in
    record { place = room; slot = omega (arith, plants.fewer, l.built.slots); fits = plants.fits }

pub loop-at-preserved : goal.loop-at-preserved
loop-at-preserved c =
    let l = c.loop-at.invariant in
    let steps = c.in-Some.ensures.steps in
    let step = steps.1 in
    let goal = goal_line c.in-Some.listed.now.line c.in_default.not-Rule in
    let told = c.plant.ensures in
    record {
      steps = (tt, tt, omega (arith, steps.0, step.1, step.2));
      ends = tt;
      counted = steps.0 ∙ l.counted;
      built = goal_built c.args.draft.now (record { last = step.0; number = step.1; none = l.counted }) l.built c.requires.passed c.requires.fitting c.plant.new.table c.plant.new.roots goal told.added told.waits told.room;
    }

pub invariant_of-result : goal.invariant_of-result
invariant_of-result c =
    let d = c.args.draft.now in
    let was = c.loop-at.invariant.built in
    let none = c.in-None.ensures.steps.1.0 in
    record {
      well_rooted = all_rooted d was none c.reverse.new.self c.reverse.ensures c.requires.passed;
      well_called = all_called d was none c.reverse.new.self c.reverse.ensures;
    }

pub returns : goal.returns
returns c = all_rules c.args.draft.now c.loop-at.invariant.built c.in-None.ensures.steps.1.0 c.reverse.new.self c.reverse.ensures

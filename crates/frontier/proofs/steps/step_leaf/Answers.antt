-- Each way through a leaf's step. Assumes nothing.
use Rattle.std.proofs.Common.{arith, ◌≤◌, vec_len, sym, refl, ◌∙◌}
use Rattle.std.proofs.lemmas.Result.{err_from_is_err_and}
use Rattle.std.proofs.lemmas.Bool.{ltb-true, ltb-false, eqb-true, eqb-false}
use Rattle.frontier.proofs.Leaf.{ready_at, went_at, went_as, unchanged, goal_inside, store_live, frame_room, telling, call_scope, told_went, told_boxed, conj_went, disj_went, fresh_went, call_went, or_short, and_short, new_full, at_disj, no_second}
use Rattle.frontier.proofs.steps.step_leaf.Goals as goal

pub form-requires : goal.form-requires
form-requires g c = goal_inside c.args.leaf c.requires.ready.1.0 (ready_at c.args.leaf c.requires.here c.requires.ready.1.1)

pub step_tell-requires : goal.step_tell-requires
step_tell-requires g c =
    let l = c.args.leaf in
    let r = ready_at l c.requires.here c.requires.ready.1.1 in
    let f = c.in-Tell.ensures in
    record { live = store_live l c.requires.ready.1.0 r; tells = telling l c.requires.ready.1.0 c.in-Tell.tell f.stands f.value r }

pub returns-in-Tell : goal.returns-in-Tell
returns-in-Tell g c =
    let l = c.args.leaf in
    record {
      does = λ rules T r. went_at l c.requires.here
          (told_went _ l T c.in-Tell.tell c.step_tell.result c.in-Tell.ensures.stands c.step_tell.ensures g.B.Bank.view.laws.some_value) r;
      kept = refl;
      cap = refl;
      boxed = told_boxed l _ c.in-Tell.tell c.step_tell.result c.requires.here c.step_tell.ensures;
    }

pub returns-then-short_of-clause-does : goal.returns-then-short_of-clause-does
returns-then-short_of-clause-does g c = (
  record { tree = refl; bank = unchanged },
  λ rules T r.
      or_short c.args.leaf T c.in-Or.first c.in-Or.second c.in-Or.ensures.stands (ltb-true _ 2 (sym c.short_of.ensures ∙ c.if-short_of.true)) (ready_at c.args.leaf c.requires.here r),
)

pub returns-in_err-store-in-Or : goal.returns-in_err-store-in-Or
returns-in_err-store-in-Or g c =
    let l = c.args.leaf in
    let p = err_from_is_err_and c.from_residual.result c.from_residual.ensures.1 in
    let f = no_second l.store c.in_err-store-in-Or.field-0.0 (store_live l c.requires.ready.1.0 (ready_at l c.requires.here c.requires.ready.1.1)) c.in_err-store-in-Or.ensures in
    let two : 2 ≤ vec_len c.args.pool.now = ltb-false _ 2 (sym c.short_of.ensures ∙ c.if-short_of.false) in
    rw (p.1, p.2) record {
      does = (
        record { tree = refl; bank = f.same },
        λ rules T r.
            f.stops _ _ T (at_disj l T c.in-Or.first c.in-Or.second c.in-Or.ensures.stands two (ready_at l c.requires.here r)),
      );
      kept = refl;
      cap = refl;
      boxed = tt;
    }

pub returns-in_ok-store-in-Or-clause-does : goal.returns-in_ok-store-in-Or-clause-does
returns-in_ok-store-in-Or-clause-does g c =
    let l = c.args.leaf in
    λ rules T r. went_at l c.requires.here
    (disj_went c.boxed-a.result c.boxed-b.result l T c.in-Or.first c.in-Or.second c.in_ok-store-in-Or.store c.in-Or.ensures.stands
    (c.boxed-a.ensures.holds ∙ c.leaf.ensures) (c.boxed-b.ensures.holds ∙ c.leaf-in-Or.ensures) c.in_ok-store-in-Or.ensures.1) r

pub returns-then-short_of-2-clause-does : goal.returns-then-short_of-2-clause-does
returns-then-short_of-2-clause-does g c = (
  record { tree = refl; bank = unchanged },
  λ rules T r.
      and_short c.args.leaf T c.in-And.first c.in-And.second c.in-And.ensures.stands (ltb-true _ 1 (sym c.short_of-in-And.ensures ∙ c.if-short_of-2.true)) (ready_at c.args.leaf c.requires.here r),
)

pub returns-else-short_of-2-clause-does : goal.returns-else-short_of-2-clause-does
returns-else-short_of-2-clause-does g c =
    let l = c.args.leaf in
    λ rules T r. went_at l c.requires.here
    (conj_went c.boxed-a-in-And.result l T c.in-And.first c.in-And.second c.in-And.ensures.stands (c.boxed-a-in-And.ensures.holds ∙ c.leaf-in-And.ensures)) r

pub returns-then-all_used-clause-does : goal.returns-then-all_used-clause-does
returns-then-all_used-clause-does g c = (
  record { tree = refl; bank = unchanged },
  λ rules T r.
      new_full c.args.leaf T c.in-New.goal c.in-New.ensures.stands (eqb-true _ _ (sym c.all_used.ensures ∙ c.if-all_used.true)) (ready_at c.args.leaf c.requires.here r),
)

pub extend-frame-requires : goal.extend-frame-requires
extend-frame-requires g c =
    let l = c.args.leaf in
    let r = ready_at l c.requires.here c.requires.ready.1.1 in
    frame_room l c.requires.ready.1.0 c.in-New.goal c.in-New.ensures.stands r

pub returns-else-all_used-clause-does : goal.returns-else-all_used-clause-does
returns-else-all_used-clause-does g c =
    let l = c.args.leaf in
    λ rules T r. went_as c.leaf-in-New.ensures (went_at l c.requires.here
    (fresh_went _ l T c.in-New.goal c.in-New.ensures.stands (eqb-false _ _ (sym c.all_used.ensures ∙ c.if-all_used.false)) refl c.extend-frame.ensures refl refl) r)

pub rule-called-requires : goal.rule-called-requires
rule-called-requires g c = c.in-Call.ensures.stands.0

pub select-frame-requires : goal.select-frame-requires
select-frame-requires g c =
    let l = c.args.leaf in
    let r = ready_at l c.requires.here c.requires.ready.1.1 in
    (omega arith, (omega arith, call_scope l c.requires.ready.1.0 c.in-Call.call c.in-Call.ensures.stands r))

pub returns-in-Call-clause-does : goal.returns-in-Call-clause-does
returns-in-Call-clause-does g c =
    let l = c.args.leaf in
    let q = c.rule-called.ensures in
    λ rules T r. went_as c.leaf-in-Call.ensures (went_at l c.requires.here
    (call_went _ l T c.in-Call.call c.rule-called.result c.in-Call.ensures.stands q.rooted q.means refl c.select-frame.ensures refl refl) r)

use Rattle.std.proofs.Common.{◌≡◌, sym, ◌∙◌, subst, ⊎_elim, arith}
use Rattle.std.proofs.lemmas.Bool.{cases_eq, eq-eqb, ne_eqb}
use Rattle.trees.specs.Marks.{Grounds}
use Rattle.trees.proofs.Grounding.{grounds, never_grounds, few_marks}
use Rattle.trees.proofs.levels.marks_all.Goals as goal

pub returns-then-m-n : goal.returns-then-m-n
returns-then-m-n c =
    let r = c.args.r.now in
    let n = c.loop-n.n in
    let p = c.pass-m.ensures in
    let same : c.pass-m.result ≡ n = c.if-m-n.true in
    ⊎_elim
    (λ e. subst (Grounds r) (sym (eq-eqb n r.used e)) (grounds r c.pass-m.new.marks c.pass-m.result c.requires.shaped p.holds (same ∙ e)))
    (λ ne. subst (Grounds r) (sym (ne_eqb n r.used ne)) (never_grounds r c.pass-m.new.marks c.pass-m.result c.requires.shaped p.holds (p.stuck same) (λ e. ne (sym same ∙ e))))
    (cases_eq n r.used)

pub loop-n-smaller : goal.loop-n-smaller
loop-n-smaller c =
    let p = c.pass-m.ensures in
    omega (arith, p.grows, c.if-m-n.false, few_marks c.args.r.now c.pass-m.new.marks c.pass-m.result p.holds)

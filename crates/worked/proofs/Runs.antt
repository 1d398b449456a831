-- The runs and the derivations of the table, written out. Assumes nothing.
use Rattle.std.proofs.Common.{◌≡◌, ℕ, zero, suc, true, List, [], ◌∷◌, pos, refl}
use Prim.Native.String.{String}
use Rattle.std.specs.Fmt.{digits}
use Rattle.std.proofs.lemmas.Bool.{false≢true, and_parts}
use Rattle.bank.specs.Kinds.{Value, number, pair, Assignment, all_admitted}
use Rattle.trees.specs.Kind.{equal}
use Rattle.book.specs.Language.{Rules, rule_at}
use Rattle.machine.specs.Machine.{left as L, right as R, State, Entry, Run, begin, next}
use Rattle.machine.specs.Machine.{step_tell_lem, step_fail, step_conj, step_disj, step_fresh, step_call, step_branch, step_chain}
use Rattle.machine.specs.Derivations.{Deriv, weight, choices, Posable, told_true, both, by_left, by_right, by_rule}
use Rattle.worked.specs.Rows.{Bank, over_trees, over_semitones, kind_of, Given, End, exhausted, spent, Reads, AnswersAre, EndsSo, Ran, Weighed}
use Rattle.worked.specs.Table.{two_ways, both_ways, again, inside, fifth, idle, numbers}
use Rattle.worked.proofs.Books.{two_ways_reads, both_ways_reads, again_reads, inside_reads, fifth_reads, idle_reads}
use Rattle.worked.proofs.TreeLines.{one_line, two_line}
use Rattle.worked.proofs.SemitoneLines.{fifth_line}

abbrev all : ℕ → Assignment
all k v = number (pos k)

-- a run with its answers and its end is a row
ran :
    {text : String} {rules : Rules} {t : ℕ} {S : State} {es : List Entry} (b : Bank) (answers : List Given) (end : End)
    → Reads text rules → Run (kind_of b) rules (rule_at rules 0) t S es → AnswersAre b (rule_at rules 0).params es answers → EndsSo end S
    → Ran b text t answers end
ran b answers end reads run given ends = record { rules = _; reads = reads; state = _; entries = _; run = run; given = given; ends = ends }

pub two_ways_runs : Ran over_trees two_ways 3 ((2, L ∷ [], "60") ∷ (3, R ∷ [], "67") ∷ []) exhausted
unfolding all_admitted equal digits
two_ways_runs =
    ran over_trees _ exhausted two_ways_reads (next (next (next begin step_disj) (step_branch (step_tell_lem (all 60) refl))) (step_tell_lem (all 67) refl))
    (refl, refl, one_line 60 "60" refl, (refl, refl, one_line 67 "67" refl, tt)) refl

pub both_ways_runs : Ran over_trees both_ways 6 ((4, L ∷ [], "60,60") ∷ (6, R ∷ [], "67,67") ∷ []) exhausted
unfolding all_admitted equal digits
both_ways_runs =
    let split = next (next begin step_conj) (step_chain step_disj) in
    let first = next (next split (step_chain (step_branch (step_tell_lem (all 60) refl)))) (step_branch (step_tell_lem (all 60) refl)) in
    ran over_trees _ exhausted both_ways_reads (next (next first (step_chain (step_tell_lem (all 67) refl))) (step_tell_lem (all 67) refl))
    (refl, refl, two_line 60 "60,60" refl, (refl, refl, two_line 67 "67,67" refl, tt)) refl

pub again_runs : Ran over_trees again 9 ((3, R ∷ [], "5") ∷ (6, L ∷ R ∷ [], "5") ∷ (9, L ∷ L ∷ R ∷ [], "5") ∷ []) spent
unfolding all_admitted equal digits
again_runs =
    let once = next (next (next begin step_disj) (step_branch step_call)) (step_branch (step_tell_lem (all 5) refl)) in
    let twice = next (next (next once step_disj) (step_branch step_call)) (step_branch (step_tell_lem (all 5) refl)) in
    let line = one_line 5 "5" refl in
    ran over_trees _ spent again_reads (next (next (next twice step_disj) (step_branch step_call)) (step_branch (step_tell_lem (all 5) refl)))
    (refl, refl, line, (refl, refl, line, (refl, refl, line, tt))) (_, refl)

-- no value is a pair that has the value inside
no_inside : (v w : Value) → equal v (pair v w) ≡ true → ⊥
unfolding equal
no_inside (number k) w e = false≢true e
no_inside (pair u v) w e = no_inside u v (and_parts (equal u (pair u v)) (equal v w) e).0

pub inside_runs : Ran over_trees inside 2 [] exhausted
unfolding all_admitted
inside_runs =
    ran over_trees _ exhausted inside_reads (next (next begin step_fresh) (step_fail (λ σ e. no_inside (σ 0) (σ 1) (and_parts _ _ e).0))) tt refl

abbrev fifth_apart : Assignment
fifth_apart zero = number (pos 0)
fifth_apart (suc v) = number (pos 7)

pub fifth_runs : Ran over_semitones fifth 1 ((1, [], "_0,_0+7") ∷ []) exhausted
unfolding all_admitted
fifth_runs =
    ran over_semitones _ exhausted fifth_reads (next begin (step_tell_lem fifth_apart refl))
    (refl, refl, fifth_line, tt) refl

pub idle_runs : Ran over_trees idle 6 [] spent
idle_runs =
    ran over_trees _ spent idle_reads (next (next (next (next (next (next begin step_call) step_call) step_call) step_call) step_call) step_call) tt (_, refl)

weighed :
    {text : String} {rules : Rules} {vs : List Value} (b : Bank)
    → Reads text rules → Posable (kind_of b) (rule_at rules 0) vs → (D : Deriv (kind_of b) rules (rule_at rules 0).goal vs)
    → Weighed b text vs (choices D) (weight D)
weighed b reads posable D = record { rules = _; reads = reads; posable = posable; derivation = D; its_choices = refl; its_weight = refl }

pub two_ways_left : Weighed over_trees two_ways (numbers (60 ∷ [])) (L ∷ []) 2
unfolding equal
two_ways_left = weighed over_trees two_ways_reads (refl, (refl, tt)) (by_left (told_true refl))

pub two_ways_right : Weighed over_trees two_ways (numbers (67 ∷ [])) (R ∷ []) 3
unfolding equal
two_ways_right = weighed over_trees two_ways_reads (refl, (refl, tt)) (by_right (told_true refl))

pub both_ways_left : Weighed over_trees both_ways (numbers (60 ∷ 60 ∷ [])) (L ∷ []) 6
unfolding equal
both_ways_left = weighed over_trees both_ways_reads (refl, (refl, (refl, tt))) (both (by_left (told_true refl)) (told_true refl))

pub both_ways_right : Weighed over_trees both_ways (numbers (67 ∷ 67 ∷ [])) (R ∷ []) 12
unfolding equal
both_ways_right = weighed over_trees both_ways_reads (refl, (refl, (refl, tt))) (both (by_right (told_true refl)) (told_true refl))

pub again_first : Weighed over_trees again (numbers (5 ∷ [])) (R ∷ []) 3
unfolding equal
again_first = weighed over_trees again_reads (refl, (refl, tt)) (by_right (told_true refl))

pub again_second : Weighed over_trees again (numbers (5 ∷ [])) (L ∷ R ∷ []) 8
unfolding equal
again_second = weighed over_trees again_reads (refl, (refl, tt)) (by_left (by_rule (by_right (told_true refl))))

-- How a run goes on. Assumes nothing.
use Rattle.std.proofs.Common.{◌≡◌, ℕ, ◌+◌, ◌^◌, ◌<◌, ◌≤◌, true, List, [], ◌∷◌, ◌++◌, Some, None, Option, sym, refl, ◌∙◌, subst, inl, inr, arith}
use Rattle.std.proofs.lemmas.Bool.{both_ways, cases_Bool}
use Rattle.frontier.specs.declared.tree.Found.{Found}
use Rattle.search.specs.declared.Search.{Search}
use Rattle.book.specs.Language.{Rule, Rules}
use Rattle.machine.specs.Machine.{Answer, State, Entry}
use Rattle.bank.specs.Views.{View}
use Rattle.search.specs.Calls.{StandsFor, Good, Untouched, NoneLeft}
use Rattle.frontier.specs.Trees.{Answers}

-- The answers since a run began: none, or that which waits.
pub record Latest {S : Type 0} (v : View S) (t : Search S) (es es' : List Entry) (k : ℕ) (x : Found) : Type 0 where
  pub stepped : 1 ≤ k
  pub answer : Answer
  pub latest : es' ≡ es ++ (record { step = t.steps; answer = answer } ∷ [])
  pub stands : Answers v.kind v.variables (v.meaning t.bank) x answer

abbrev pub Since : {S : Type 0} → View S → Search S → List Entry → List Entry → ℕ → Option Found → Type 0
Since v t es es' k None = es' ≡ es
Since v t es es' k (Some x) = Latest v t es es' k x

pub record Gone {S : Type 0} (v : View S) (t : Search S) (rules : Rules) (rule : Rule) (es : List Entry) (k : ℕ) : Type 0 where
  pub state : State
  pub entries : List Entry
  pub stands : StandsFor v t rules rule state entries
  pub since : Since v t es entries k t.waiting

-- So many steps were made, and none but the last gave an answer.
pub record Along {S : Type 0} (v : View S) (s t : Search S) (k b : ℕ) : Type 0 where
  pub was_posed : s.posed ≡ true
  pub none_waited : s.waiting ≡ None
  pub near : s.steps + b < 2 ^ 32
  pub is_posed : t.posed ≡ true
  pub steps : t.steps ≡ s.steps + k
  pub few : k ≤ b
  pub book : t.book ≡ s.book
  pub stock : t.stock ≡ s.stock
  pub others : Untouched v s t
  pub none_left : NoneLeft v s t
  pub stands : (rules : Rules) (rule : Rule) (T : State) (es : List Entry) → StandsFor v s rules rule T es → Gone v t rules rule es k

-- What a call leaves: a search, of which it promises D, and no store but the search's.
pub record Called {S : Type 0} (v : View S) (s t : Search S) (D : Type 0) : Type 0 where
  pub good : Good v t
  pub does : D
  pub none_left : NoneLeft v s t

pub untouched_same : {S : Type 0} (v : View S) (s : Search S) → Untouched v s s
untouched_same v s = record { live = λ x n h. h; solutions = λ x n h σ. refl; theirs = λ x n h m. n m }

pub none_left_same : {S : Type 0} (v : View S) (s : Search S) → NoneLeft v s s
none_left_same v s = record { gone = λ x n h. elim h [ inl m ↦ absurd (n m) | inr d ↦ d ] }

pub untouched_on : {S : Type 0} (v : View S) (s t u : Search S) → Untouched v s t → Untouched v t u → Untouched v s u
untouched_on v s t u a b = record {
  live = λ x n h. b.live x (a.theirs x n h) (a.live x n h);
  solutions = λ x n h σ. b.solutions x (a.theirs x n h) (a.live x n h) σ ∙ a.solutions x n h σ;
  theirs = λ x n h. b.theirs x (a.theirs x n h) (a.live x n h);
}

pub none_left_on : {S : Type 0} (v : View S) (s t u : Search S) → NoneLeft v s t → NoneLeft v t u → NoneLeft v s u
none_left_on v s t u a b = record {
  gone = λ x n h. elim (cases_Bool ((v.meaning u.bank).live x)) [
    | inl alive ↦ b.gone x n (inr (a.gone x (λ i. both_ways ((v.meaning u.bank).live x) (b.gone x n (inl i)) alive) h))
    | inr dead ↦ dead
  ];
}

pub begins : {S : Type 0} (v : View S) (s : Search S) (b : ℕ) → s.posed ≡ true → s.waiting ≡ None → s.steps + b < 2 ^ 32 → Along v s s 0 b
begins v s b p w n = record {
  was_posed = p;
  none_waited = w;
  near = n;
  is_posed = p;
  steps = omega arith;
  few = omega arith;
  book = refl;
  stock = refl;
  others = untouched_same v s;
  none_left = none_left_same v s;
  stands = λ rules rule T es sf. record {
    state = T;
    entries = es;
    stands = sf;
    since = subst (λ (x : Option Found). Since v s es es 0 x) (sym w) refl;
  };
}

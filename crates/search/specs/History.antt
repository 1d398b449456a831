-- The calls that led to a search, over any bank, and what they gave. Assumes nothing.
--
--   History     from a bank to a search, by any calls, refused ones too
--   Subject     a book and the number of one of its rules
--   rule_of     that rule
--   Answer      an answer at which a run stopped: its step, and the solutions of its store
--   subject     what the latest accepted pose asked for
--   answers     the answers since then, in order
--   exhausted   whether a run has said exhausted since then
use Rattle.std.specs.Prelude.{ℕ, Bool, true, false, List, [], ◌∷◌, ◌++◌, Some, None, Ok, Err, Option, Result}
use Rattle.bank.specs.Kinds.{Solutions}
use Rattle.bank.specs.Views.{View}
use Rattle.book.specs.declared.Book.{Book}
use Rattle.book.specs.Language.{Rule, Rules, rule_at}
use Rattle.book.specs.Meaning.{meaning}
use Rattle.search.specs.declared.Outcome.{Outcome}
use Rattle.search.specs.declared.Outcome.TheVariants.{Answer as Answered, Exhausted, Spent}
use Rattle.search.specs.declared.Ran.{Ran}
use Rattle.search.specs.declared.Search.{Search}
use Rattle.search.specs.declared.refusal.Refusal.{Refusal}
use Rattle.search.specs.Calls.{NewDoes, PoseDoes, RunDoes, WriteDoes, TakeDoes}

-- The relations are those of the calls' contracts. A write leaves the search as it is.
pub data History {S : Type 0} (v : View S) (bank : S) : Search S → Type 0 where
  made : {t : Search S} → NewDoes v bank (Ok t) → History v bank t
  posed :
      {s t : Search S} → History v bank s → (book : Book) (r : ℕ) (res : Result (Unit {0}) Refusal)
      → PoseDoes v s book r res t → History v bank t
  ran : {s t : Search S} → History v bank s → (b : ℕ) (res : Result Ran Refusal) → RunDoes v s b res t → History v bank t
  wrote :
      {s : Search S} → History v bank s → (before after : List ℕ) (res : Result ℕ Refusal)
      → WriteDoes v s before res after → History v bank s
  took : {s t : Search S} → History v bank s → (res : Result (Unit {0}) Refusal) → TakeDoes v s res t → History v bank t

pub record Subject : Type 0 where
  pub rules : Rules
  pub number : ℕ

abbrev pub rule_of : Subject → Rule
rule_of q = rule_at q.rules q.number

pub record Answer : Type 0 where
  pub step : ℕ
  pub solutions : Solutions

-- the answer of a run that ended at t
abbrev pub reply : {S : Type 0} → View S → Search S → Outcome → List Answer
reply v t (Answered x) = record { step = t.steps; solutions = (v.meaning t.bank).solutions x.store } ∷ []
reply v t Exhausted = []
reply v t Spent = []

abbrev pub says_end : Outcome → Bool → Bool
says_end (Answered x) before = before
says_end Exhausted before = true
says_end Spent before = before

module _ {S : Type 0} {v : View S} {bank : S} where
  abbrev pub subject : {s : Search S} → History v bank s → Option Subject
  subject (made d) = None
  subject (posed h book r (Ok u) d) = Some (record { rules = meaning book; number = r })
  subject (posed h book r (Err e) d) = subject h
  subject (ran h b res d) = subject h
  subject (wrote h before after res d) = subject h
  subject (took h res d) = subject h

  abbrev pub answers : {s : Search S} → History v bank s → List Answer
  answers (made d) = []
  answers (posed h book r (Ok u) d) = []
  answers (posed h book r (Err e) d) = answers h
  answers (ran {t = t} h b (Ok r) d) = answers h ++ reply v t r.outcome
  answers (ran h b (Err e) d) = answers h
  answers (wrote h before after res d) = answers h
  answers (took h res d) = answers h

  abbrev pub exhausted : {s : Search S} → History v bank s → Bool
  exhausted (made d) = false
  exhausted (posed h book r (Ok u) d) = false
  exhausted (posed h book r (Err e) d) = exhausted h
  exhausted (ran h b (Ok r) d) = says_end r.outcome (exhausted h)
  exhausted (ran h b (Err e) d) = exhausted h
  exhausted (wrote h before after res d) = exhausted h
  exhausted (took h res d) = exhausted h

-- A run that was refused left all as it was, or halted. Assumes nothing.
use Rattle.std.proofs.Common.{ℕ, ◌⊎◌, Err, inl, inr}
use Rattle.bank.specs.Views.{View}
use Rattle.search.specs.declared.Search.{Search}
use Rattle.search.specs.declared.refusal.Halt.{Halt}
use Rattle.search.specs.declared.refusal.Refusal.{Refusal}
use Rattle.search.specs.declared.refusal.Refusal.TheVariants.{NoSuchRule, UnknownTell, NoStock, NothingPosed, AnswerWaits, TooManySteps, TooManyNodes, NoVariable, NoStore, NoAnswer, ShortBuffer, LineTooLong}
use Rattle.frontier.specs.declared.stop.Stop.{Stop}
use Rattle.frontier.specs.declared.stop.Stop.TheVariants.{Nodes, Variables, Stores}
use Rattle.search.specs.Calls.{Same, RunHalted, RunDoes}

pub refused_runs :
    {S : Type 0} (v : View S) (s t : Search S) (b : ℕ) (e : Refusal) → RunDoes v s b (Err e) t
    → Same v s t ⊎ ((h : Halt) × (w : Stop) × RunHalted v s b h w t)
refused_runs v s t b NothingPosed d = inl d.1
refused_runs v s t b AnswerWaits d = inl d.2
refused_runs v s t b TooManySteps d = inl d.3
refused_runs v s t b (TooManyNodes h) d = inr (h, Nodes, d)
refused_runs v s t b (NoVariable h) d = inr (h, Variables, d)
refused_runs v s t b (NoStore h e) d = inr (h, Stores e, d)
refused_runs v s t b NoSuchRule d = absurd d
refused_runs v s t b (UnknownTell line) d = absurd d
refused_runs v s t b (NoStock e) d = absurd d
refused_runs v s t b NoAnswer d = absurd d
refused_runs v s t b ShortBuffer d = absurd d
refused_runs v s t b (LineTooLong o) d = absurd d

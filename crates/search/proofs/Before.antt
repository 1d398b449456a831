-- Stores that were live before new are never touched. Assumes nothing.
use Rattle.std.proofs.Common.{Bool, Ok, Err, Option, ap, ◌∙◌, subst, inl, inr}
use Rattle.frontier.specs.declared.tree.Found.{Found}
use Rattle.search.specs.declared.Search.{Search}
use Rattle.bank.specs.Views.{View}
use Rattle.frontier.specs.Trees.{Among, Holds}
use Rattle.search.specs.Calls.{Untouched as OneCall}
use Rattle.search.specs.History.{History, made, posed, ran, wrote, took}
use Rattle.search.specs.Promise.{Untouched}
use Rattle.search.proofs.Refused.{refused_runs}
use Rattle.search.proofs.Runs.{same_untouched}

module _ {S : Type 0} (v : View S) (bank : S) where
  on : (s t : Search S) → Untouched v bank s → OneCall v s t → Untouched v bank t
  on s t a b = record {
    live = λ x h. b.live x (a.theirs x h) (a.live x h);
    solutions = λ x h σ. b.solutions x (a.theirs x h) (a.live x h) σ ∙ a.solutions x h σ;
    theirs = λ x h. b.theirs x (a.theirs x h) (a.live x h);
  }

  pub untouched : {s : Search S} → History v bank s → Untouched v bank s
  untouched (made {t} d) = record {
    live = λ x h. ap (λ (b : S). (v.meaning b).live x) d.bank_is ∙ h;
    solutions = λ x h σ. ap (λ (b : S). (v.meaning b).solutions x σ) d.bank_is;
    theirs = λ x h m. elim m [
      | inl i ↦ subst (λ (e : Bool). Among e t.tree x) d.over i
      | inr i ↦ subst (λ (y : Option Found). Holds y x) d.empty i
    ];
  }
  untouched (posed {s} {t} h book r (Ok u) d) = on s t (untouched h) d.others
  untouched (posed {s} {t} h book r (Err e) d) = on s t (untouched h) (same_untouched v s t d.1)
  untouched (ran {s} {t} h b (Ok r) d) = on s t (untouched h) d.runs.others
  untouched (ran {s} {t} h b (Err e) d) = on s t (untouched h) (elim (refused_runs v s t b e d) [ inl same ↦ same_untouched v s t same | inr k ↦ k.2.runs.others ])
  untouched (wrote h before after res d) = untouched h
  untouched (took {s} {t} h (Ok u) d) = on s t (untouched h) d.others
  untouched (took {s} {t} h (Err e) d) = on s t (untouched h) (same_untouched v s t d.1)

-- What a write to one slot does to the meaning. Assumes nothing.
use Rattle.std.proofs.Common.{◌≡◌, ℕ, ◌+◌, ◌<◌, true, false, ◌&&◌, List, length, set, refl, ap, ◌∙◌}
use Rattle.bank.specs.Kinds.{Kind, Condition, Assignment, Solutions, holds_at, well_formed, in_range}
use Rattle.bank.specs.Views.{Meaning}
use Rattle.bank.specs.Calls.{Unchanged, Others, Added, Accepted, KeptAll, Released}
use Rattle.records.specs.declared.slots.Slot.{Slot}
use Rattle.records.specs.Slots.{live_at, means}
use Rattle.records.proofs.Places.{live_here, live_there, noted_here, noted_there}

pub unchanged : (m : Meaning) → Unchanged m m
unchanged m = record { live = λ t. refl; solutions = λ t l σ. refl; spare = refl }

pub others_same : (m : Meaning) (s : ℕ) → Others m m s
others_same m s = record { live = λ t ne. refl; solutions = λ t ne l σ. refl }

-- a store that loses nothing need not be written
pub kept_all :
    (K : Kind) (v : ℕ) (m : Meaning) (s : ℕ) (c : Condition) → m.live s ≡ true → well_formed K c ≡ true → in_range v c ≡ true
    → ((σ : Assignment) → m.solutions s σ ≡ (m.solutions s σ && holds_at K c σ)) → ((σ : Assignment) × (m.solutions s σ ≡ true)) → KeptAll K v m m s c
kept_all K v m s c was formed within has some = record {
  accepted = record { was = was; formed = formed; within = within; is = was; has = has; some = some; others = others_same m s; spare = refl };
  all = λ σ. refl;
}

module _ {R : Type 0} (solutions : R → Solutions) (text : R → ℕ → List ℕ) (slots : List (Slot R)) (i : ℕ) (y : Slot R) (l : i < length slots) where
  pub has_here : (q : ℕ) (σ : Assignment) → (means solutions text (set slots i y) q).solutions i σ ≡ solutions y.record σ
  has_here q σ = ap (λ f. f σ) (noted_here slots i y (λ σ. false) solutions l)

  pub others : (p q : ℕ) → Others (means solutions text slots p) (means solutions text (set slots i y) q) i
  others p q = record {
    live = λ t ne. live_there slots i y t ne;
    solutions = λ t ne h σ. ap (λ f. f σ) (noted_there slots i y (λ σ. false) solutions t ne);
  }

  pub added :
      (p q : ℕ) (f : Solutions) → live_at slots i ≡ false → y.live ≡ true → ((σ : Assignment) → solutions y.record σ ≡ f σ) → q + 1 ≡ p
      → Added (means solutions text slots p) (means solutions text (set slots i y) q) i f
  added p q f was is eq less = record { was = was; is = live_here slots i y l ∙ is; has = λ σ. has_here q σ ∙ eq σ; others = others p q; spare = less }

  pub released : (p q : ℕ) → live_at slots i ≡ true → y.live ≡ false → q ≡ p + 1 → Released (means solutions text slots p) (means solutions text (set slots i y) q) i
  released p q was is more = record { was = was; is = live_here slots i y l ∙ is; others = others p q; spare = more }

  module _ (K : Kind) (v : ℕ) (p : ℕ) (c : Condition) (was : live_at slots i ≡ true) (formed : well_formed K c ≡ true) (within : in_range v c ≡ true) where
    pub accepted :
        y.live ≡ true → ((σ : Assignment) → solutions y.record σ ≡ ((means solutions text slots p).solutions i σ && holds_at K c σ))
        → ((σ : Assignment) × (solutions y.record σ ≡ true)) → Accepted K v (means solutions text slots p) (means solutions text (set slots i y) p) i c
    accepted is eq some = record {
      was = was;
      formed = formed;
      within = within;
      is = live_here slots i y l ∙ is;
      has = λ σ. has_here p σ ∙ eq σ;
      some = (some.0, has_here p some.0 ∙ some.1);
      others = others p p;
      spare = refl;
    }

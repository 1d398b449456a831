-- What telling a store does to the meaning, from what it does to the store's record. Assumes nothing.
use Rattle.std.proofs.Common.{◌≡◌, ℕ, Bool, true, false, ◌&&◌, List, get_or, set, Ok, Err, Result, sym, refl, ap, ◌∙◌, subst}
use Rattle.std.proofs.lemmas.List.{set-get_or}
use Rattle.std.proofs.lemmas.Bool.{both_ways}
use Rattle.bank.specs.declared.Effect.{Effect}
use Rattle.bank.specs.declared.Effect.TheVariants.{Kept as Same, Narrowed as Lost}
use Rattle.bank.specs.declared.Refusal.{Refusal}
use Rattle.bank.specs.declared.Refusal.TheVariants.{NotLive, NoSpare, BadConstraint, BadVariable, Contradiction, TextTooLong}
use Rattle.bank.specs.Kinds.{Condition, Assignment, Solutions, holds_at}
use Rattle.bank.specs.Views.{Meaning}
use Rattle.bank.specs.Calls.{Unchanged, Accepted, Tells}
use Rattle.records.specs.declared.slots.Slot.{Slot}
use Rattle.records.specs.Slots.{live_at, holding, Keeps}
use Rattle.records.proofs.Orders.{Orderly, orderly_held}
use Rattle.records.proofs.Places.{live_is, live_within, live_same, noted_there, written_there}
use Rattle.records.proofs.Writes.{unchanged, kept_all, accepted}
use Rattle.trees.specs.declared.tasks.Task.{Task}
use Rattle.trees.specs.Kind.{trees}
use Rattle.trees.specs.Stores.{Store, solves}
use Rattle.trees.specs.Values.{given, Sound, Kept}
use Rattle.trees.specs.Tasks.{asks, Told}
use Rattle.trees.specs.Reading.{Asked}
use Rattle.trees.specs.Meaning.{means, text_of, Spared, none, one, ToldAt}
use Rattle.trees.specs.laws.Depths.{given_solves}
use Rattle.trees.specs.laws.All.{no_slot, slot_live, solves_at, sound_at}

told_sound : (r s : Store) (t : Task) (y : Result Effect Refusal) → Sound r → Told r s t y → Sound s
told_sound r s t (Ok Same) S T = subst Sound (sym T.same) S
told_sound r s t (Ok Lost) S T = T.sound
told_sound r s t (Err Contradiction) S T = subst Sound (sym T.same) S
told_sound r s t (Err NotLive) S T = absurd T
told_sound r s t (Err NoSpare) S T = absurd T
told_sound r s t (Err BadConstraint) S T = absurd T
told_sound r s t (Err BadVariable) S T = absurd T
told_sound r s t (Err TextTooLong) S T = absurd T

-- t is what the constraint asks of the store
module _ (slots : List (Slot Store)) (kept : Keeps Kept slots) (p i : ℕ) (live : live_at slots i ≡ true) (past : Slot Store) (c : Condition) (t : Task) (A : Asked c t) where
  -- the solutions at which the constraint holds
  left : (σ : Assignment) → ((means slots p).solutions i σ && holds_at trees c σ) ≡ (solves (get_or slots i past).record σ && asks t σ)
  left σ = ap (λ (f : Solutions). f σ && holds_at trees c σ) (solves_at slots i live past p) ∙ ap (λ (b : Bool). solves (get_or slots i past).record σ && b) (A.holds σ)

  had : (σ : Assignment) → (means slots p).solutions i σ ≡ solves (get_or slots i past).record σ
  had σ = ap (λ (f : Solutions). f σ) (solves_at slots i live past p)

  back : (s : Store) → s ≡ (get_or slots i past).record → slots ≡ set slots i (holding s (get_or slots i past))
  back s e = sym (ap (λ (x : Store). set slots i (holding x (get_or slots i past))) e ∙ set-get_or slots i past)

  tells : (s : Store) (y : Result Effect Refusal) → Told (get_or slots i past).record s t y → Tells trees 256 (means slots p) (means (set slots i (holding s (get_or slots i past))) p) i c y
  tells s (Ok Same) T = subst (λ (after : List (Slot Store)). Tells trees 256 (means slots p) (means after p) i c (Ok Same)) (back s T.same)
      (kept_all trees 256 (means slots p) i c live A.formed A.within (λ σ. had σ ∙ T.always σ ∙ sym (left σ))
      (given (get_or slots i past).record, had (given (get_or slots i past).record) ∙ given_solves (get_or slots i past).record (sound_at slots i live past kept)))
  tells s (Ok Lost) T = accepted solves text_of slots i (holding s (get_or slots i past)) (live_within slots i live) trees 256 p c live A.formed A.within (slot_live slots i live past)
      (λ σ. T.solutions σ ∙ sym (left σ)) (given s, given_solves s T.sound)
  tells s (Err Contradiction) T = subst (λ (after : List (Slot Store)). Tells trees 256 (means slots p) (means after p) i c (Err Contradiction)) (back s T.same)
      (record { was = live; formed = A.formed; within = A.within; never = λ σ. left σ ∙ T.never σ; same = unchanged (means slots p) })
  tells s (Err NotLive) T = absurd T
  tells s (Err NoSpare) T = absurd T
  tells s (Err BadConstraint) T = absurd T
  tells s (Err BadVariable) T = absurd T
  tells s (Err TextTooLong) T = absurd T

-- an idle slot holds another record
spared_unchanged : (slots mid : List (Slot Store)) (p : ℕ) → Spared slots mid → Unchanged (means slots p) (means mid p)
spared_unchanged slots mid p none = unchanged (means slots p)
spared_unchanged slots mid p (one m at held l off W) =
    let y = holding held (get_or slots at no_slot) in
    subst (λ (xs : List (Slot Store)). Unchanged (means slots p) (means xs p)) (sym (W no_slot)) (record {
      live = live_same slots at y l (sym (live_is slots at no_slot l));
      solutions = λ t on σ. ap (λ (f : Solutions). f σ) (noted_there slots at y (λ σ. false) solves t (λ q. both_ways (live_at slots at) off (ap (live_at slots) (sym q) ∙ on)));
      spare = refl;
    })

spared_slot : (slots mid : List (Slot Store)) → Spared slots mid → (i : ℕ) → live_at slots i ≡ true → (past : Slot Store) → get_or mid i past ≡ get_or slots i past
spared_slot slots mid none i on past = refl
spared_slot slots mid (one m at held l off W) i on past = written_there at (holding held) slots m W past i (λ q. both_ways (live_at slots at) off (ap (live_at slots) (sym q) ∙ on))

spared_orderly : (slots mid : List (Slot Store)) (numbers : List ℕ) (spare : ℕ) → Spared slots mid → Orderly Kept slots numbers spare → Orderly Kept mid numbers spare
spared_orderly slots mid numbers spare none O = O
spared_orderly slots mid numbers spare (one m at held l off W) O =
    subst (λ (xs : List (Slot Store)). Orderly Kept xs numbers spare) (sym (W no_slot)) (orderly_held Kept slots numbers spare O at held no_slot l (λ on. absurd (both_ways (live_at slots at) off on)))

-- what was said of the slots that are written over says the same of those before
accepted_since : (m k n : Meaning) (s : ℕ) (c : Condition) → Unchanged m k → Accepted trees 256 k n s c → Accepted trees 256 m n s c
accepted_since m k n s c U A =
    let was = sym (U.live s) ∙ A.was in
    record {
      was = was;
      formed = A.formed;
      within = A.within;
      is = A.is;
      has = λ σ. A.has σ ∙ ap (λ (b : Bool). b && holds_at trees c σ) (U.solutions s was σ);
      some = A.some;
      others = record {
        live = λ t ne. A.others.live t ne ∙ U.live t;
        solutions = λ t ne on σ. A.others.solutions t ne (U.live t ∙ on) σ ∙ U.solutions t on σ;
      };
      spare = A.spare ∙ U.spare;
    }

tells_since : (m k n : Meaning) (s : ℕ) (c : Condition) (r u : Store) (t : Task) (y : Result Effect Refusal) → Unchanged m k → Told r u t y → Tells trees 256 k n s c y → Tells trees 256 m n s c y
tells_since m k n s c r u t (Ok Same) U T X =
    let A = accepted_since m k n s c U X.accepted in
    record { accepted = A; all = λ σ. X.all σ ∙ U.solutions s A.was σ }
tells_since m k n s c r u t (Ok Lost) U T X = accepted_since m k n s c U X
tells_since m k n s c r u t (Err Contradiction) U T X =
    let was = sym (U.live s) ∙ X.was in
    record {
      was = was;
      formed = X.formed;
      within = X.within;
      never = λ σ. ap (λ (b : Bool). b && holds_at trees c σ) (sym (U.solutions s was σ)) ∙ X.never σ;
      same = record {
        live = λ t. X.same.live t ∙ U.live t;
        solutions = λ t on σ. X.same.solutions t (U.live t ∙ on) σ ∙ U.solutions t on σ;
        spare = X.same.spare ∙ U.spare;
      };
    }
tells_since m k n s c r u t (Err NotLive) U T X = absurd T
tells_since m k n s c r u t (Err NoSpare) U T X = absurd T
tells_since m k n s c r u t (Err BadConstraint) U T X = absurd T
tells_since m k n s c r u t (Err BadVariable) U T X = absurd T
tells_since m k n s c r u t (Err TextTooLong) U T X = absurd T

-- a store of a bank is told
module _ (slots : List (Slot Store)) (numbers : List ℕ) (spare i : ℕ) (O : Orderly Kept slots numbers spare) (live : live_at slots i ≡ true) (t : Task) (after : List (Slot Store)) (y : Result Effect Refusal)
    (X : ToldAt i t slots after y) where
  calm : Orderly Kept X.mid numbers spare
  calm = spared_orderly slots X.mid numbers spare X.spared O

  still : live_at X.mid i ≡ true
  still = (spared_unchanged slots X.mid spare X.spared).live i ∙ live

  told : Told (get_or X.mid i no_slot).record X.new t y
  told = subst (λ (s : Slot Store). Told s.record X.new t y) (sym (spared_slot slots X.mid X.spared i live no_slot)) (X.told no_slot)

  pub told_orderly : Orderly Kept after numbers spare
  told_orderly = subst (λ (xs : List (Slot Store)). Orderly Kept xs numbers spare) (sym (X.is no_slot))
      (orderly_held Kept X.mid numbers spare calm i X.new no_slot (live_within X.mid i still)
      (λ e. ∣ told_sound (get_or X.mid i no_slot).record X.new t y (sound_at X.mid i still no_slot calm.kept) told ∣₁))

  pub told_tells : (c : Condition) → Asked c t → Tells trees 256 (means slots spare) (means after spare) i c y
  told_tells c A = tells_since (means slots spare) (means X.mid spare) (means after spare) i c (get_or X.mid i no_slot).record X.new t y
      (spared_unchanged slots X.mid spare X.spared) told
      (subst (λ (xs : List (Slot Store)). Tells trees 256 (means X.mid spare) (means xs spare) i c y) (sym (X.is no_slot))
      (tells X.mid calm.kept spare i still no_slot c t A X.new y told))

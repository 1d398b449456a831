-- A store told in an idle slot. Assumes nothing.
use Rattle.std.proofs.Common.{◌≡◌, ℕ, ◌<◌, ◌≤◌, Bool, false, ◌&&◌, List, [], length, get_or, set, Ok, Err, Result, sym, refl, ap, ◌∙◌, subst, arith, length-set}
use Rattle.std.proofs.lemmas.List.{get_or_default, set-get_or}
use Rattle.bank.specs.declared.Effect.{Effect}
use Rattle.bank.specs.declared.Effect.TheVariants.{Kept as Same, Narrowed as Lost}
use Rattle.bank.specs.declared.Refusal.{Refusal}
use Rattle.bank.specs.declared.Refusal.TheVariants.{Contradiction}
use Rattle.bank.specs.Kinds.{Assignment}
use Rattle.records.specs.declared.slots.Slot.{Slot}
use Rattle.records.specs.Cells.{Alike as Copy}
use Rattle.records.specs.Slots.{live_at, Written, holding, Copied}
use Rattle.records.proofs.Places.{written, written_then, written_here, written_there}
use Rattle.trees.specs.declared.tasks.Task.{Task}
use Rattle.trees.specs.Stores.{Store, lone, solves, Alike}
use Rattle.trees.specs.Values.{Sound}
use Rattle.trees.specs.Tasks.{asks, Narrowed, Told}
use Rattle.trees.specs.Meaning.{SoundAt, ToldAside, none, one, ToldAt}
use Rattle.trees.specs.laws.All.{no_slot, record_at}
use Rattle.trees.specs.laws.Shapes.{alike_cells, solves_alike}

-- what code gives for a slot past the last one
abbrev pub past_slot : Slot Store
past_slot = record { live = false; «record» = record { used = 0; cells = [] } }

-- a slot that is written as it was
pub written_same : (slots : List (Slot Store)) (i : ℕ) → i < length slots → Written i (holding (record_at slots i)) slots slots
written_same slots i l past = sym (set-get_or slots i past) ∙ ap (λ (s : Slot Store). set slots i (holding s.record (get_or slots i past))) (get_or_default slots i past no_slot l)

-- the record of `store` is copied to `aside`
module _ (slots : List (Slot Store)) (store aside : ℕ) (ls : store < length slots) (la : aside < length slots) (ne : store ≡ aside → ⊥) (S : SoundAt store slots) (t : Task)
    (after : List (Slot Store)) (C : Copied (Copy lone) Sound solves store aside slots after) where
  pub long : aside < length after
  long = subst (λ (xs : List (Slot Store)). aside < length xs) (sym (C.is no_slot)) (omega (arith, length-set slots aside (holding C.new (get_or slots aside no_slot))))

  here : (past : Slot Store) → (get_or after aside past).record ≡ C.new
  here past = ap (λ (s : Slot Store). s.record) (written_here aside (holding C.new) slots after C.is past la)

  pub aside_sound : (past : Slot Store) → Sound (get_or after aside past).record
  aside_sound past = subst Sound (sym (here past)) C.sound

  -- and narrowed there
  module _ (w : Store) (past : Slot Store) where
    abbrev mid : List (Slot Store)
    mid = set after aside (holding w (get_or after aside past))

    beside : Written aside (holding w) slots mid
    beside = written_then aside (holding C.new) (holding w) slots after mid la C.is (written aside (holding w) after past (holding w (get_or after aside past)) long refl)

    there : (d : Slot Store) → get_or mid store d ≡ get_or slots store d
    there d = written_there aside (holding w) slots mid beside d store ne

    mid_store : store < length mid
    mid_store = subst (λ (xs : List (Slot Store)). store < length xs) (sym (beside no_slot)) (omega (arith, length-set slots aside (holding w (get_or slots aside no_slot))))

    mid_aside : aside < length mid
    mid_aside = subst (λ (xs : List (Slot Store)). aside < length xs) (sym (beside no_slot)) (omega (arith, length-set slots aside (holding w (get_or slots aside no_slot))))

    is_old : (d : Slot Store) → (get_or slots store d).record ≡ record_at slots store
    is_old d = ap (λ (s : Slot Store). s.record) (get_or_default slots store d no_slot ls)

    unwritten : Written store (holding (record_at slots store)) mid mid
    unwritten = subst (λ (s : Slot Store). Written store (holding s.record) mid mid) (there no_slot) (written_same mid store mid_store)

    pub aside_refused : ((σ : Assignment) → (solves (get_or after aside past).record σ && asks t σ) ≡ false) → ToldAside store aside t slots mid (Err Contradiction)
    aside_refused never = record {
      mid = mid;
      held = w;
      beside = beside;
      new = record_at slots store;
      is = unwritten;
      told = λ d. record {
        same = sym (is_old d);
        never = λ σ. ap (λ (r : Store). solves r σ && asks t σ) (is_old d)
            ∙ ap (λ (b : Bool). b && asks t σ) (sym (solves_alike (record_at slots store) C.new (alike_cells _ _ (C.alike no_slot).cells) σ) ∙ ap (λ (r : Store). solves r σ) (sym (here past))) ∙ never σ;
      };
    }

    module _ (N : Narrowed (get_or after aside past).record w t) where
      same_left : (d : Slot Store) (σ : Assignment) → solves w σ ≡ (solves (get_or slots store d).record σ && asks t σ)
      same_left d σ =
          N.solutions σ
          ∙ ap (λ (b : Bool). b && asks t σ)
          (ap (λ (r : Store). solves r σ) (here past) ∙ solves_alike (record_at slots store) C.new (alike_cells _ _ (C.alike no_slot).cells) σ ∙ ap (λ (r : Store). solves r σ) (sym (is_old d)))

      more : (d : Slot Store) → (get_or slots store d).record.used ≤ w.used
      more d = omega (arith, ap (λ (r : Store). r.used) (is_old d), (C.alike no_slot).used, ap (λ (r : Store). r.used) (here past), N.more)

      -- what stands at the two places then
      pub at_store : (d : Slot Store) → (get_or mid store d).record ≡ record_at slots store
      at_store d = ap (λ (s : Slot Store). s.record) (there d) ∙ is_old d

      pub at_aside : (d : Slot Store) → (get_or mid aside d).record ≡ w
      at_aside d = ap (λ (s : Slot Store). s.record) (written_here aside (holding w) slots mid beside d la)

      pub fewer : (d e : Slot Store) → (get_or mid store d).record.used ≤ (get_or mid aside e).record.used
      fewer d e = omega (arith, more no_slot, ap (λ (r : Store). r.used) (at_store d), ap (λ (r : Store). r.used) (at_aside e))

      pub within : (d : Slot Store) → (get_or mid aside d).record.used ≤ 256
      within d = omega (arith, ap (λ (r : Store). r.used) (at_aside d), N.sound.shaped.used)

      pub aside_held : (d e : Slot Store) → Alike (get_or mid store d).record (get_or mid aside e).record → ToldAside store aside t slots mid (Ok Same)
      aside_held d e A = record {
        mid = mid;
        held = w;
        beside = beside;
        new = record_at slots store;
        is = unwritten;
        told = λ k. record {
          same = sym (is_old k);
          always = λ σ.
              ap (λ (r : Store). solves r σ) (is_old k ∙ sym (at_store d)) ∙ sym (solves_alike (get_or mid store d).record (get_or mid aside e).record A σ)
              ∙ ap (λ (r : Store). solves r σ) (at_aside e) ∙ same_left k σ;
        };
      }

      pub back : (aside < length mid) × (store < length mid)
      back = (mid_aside, mid_store)

      pub aside_narrowed : (last : List (Slot Store)) → Copied (Copy lone) Sound solves aside store mid last → ToldAside store aside t slots last (Ok Lost)
      aside_narrowed last D =
          let like : Alike w D.new = subst (λ (r : Store). Alike r D.new) (at_aside no_slot) (alike_cells _ _ (D.alike no_slot).cells) in
          let used : D.new.used ≡ w.used = (D.alike no_slot).used ∙ ap (λ (r : Store). r.used) (at_aside no_slot) in
          record {
            mid = mid;
            held = w;
            beside = beside;
            new = D.new;
            is = D.is;
            told = λ d. record {
              sound = D.sound;
              more = omega (arith, more d);
              solutions = λ σ. solves_alike w D.new like σ ∙ same_left d σ;
            };
          }

-- a store is told where it stands
pub told_here : (slots : List (Slot Store)) (i : ℕ) → i < length slots → (past : Slot Store) (new : Store) (t : Task) (y : Result Effect Refusal) → Told (get_or slots i past).record new t y → ToldAt i t slots (set slots i (holding new (get_or slots i past))) y
told_here slots i l past new t y T = record {
  mid = slots;
  spared = none;
  new = new;
  is = written i (holding new) slots past (holding new (get_or slots i past)) l refl;
  told = λ d. subst (λ (s : Slot Store). Told s.record new t y) (get_or_default slots i past d l) T;
}

-- or in an idle slot
pub told_aside : (slots after : List (Slot Store)) (i aside : ℕ) → aside < length slots → live_at slots aside ≡ false → (t : Task) (y : Result Effect Refusal) → ToldAside i aside t slots after y → ToldAt i t slots after y
told_aside slots after i aside l off t y X = record { mid = X.mid; spared = one X.mid aside X.held l off X.beside; new = X.new; is = X.is; told = X.told }

-- nothing was decided, and nothing is written
pub undecided : (slots : List (Slot Store)) (i : ℕ) (past : Slot Store) (r : Store) → r ≡ (get_or slots i past).record → set slots i (holding r (get_or slots i past)) ≡ slots
undecided slots i past r e = ap (λ (x : Store). set slots i (holding x (get_or slots i past))) e ∙ set-get_or slots i past

pub told_since : (first slots after : List (Slot Store)) (i : ℕ) (t : Task) (y : Result Effect Refusal) → slots ≡ first → ToldAt i t slots after y → ToldAt i t first after y
told_since first slots after i t y e = subst (λ (xs : List (Slot Store)). ToldAt i t xs after y) e

-- What telling answers, by what the edge did to the record. Assumes nothing.
use Rattle.std.proofs.Common.{◌≡◌, ℕ, Bool, true, ◌&&◌, List, get_or, set, Ok, Err, Result, sym, ap, ◌∙◌, subst}
use Rattle.std.proofs.lemmas.List.{set-get_or}
use Rattle.bank.specs.declared.Effect.{Effect}
use Rattle.bank.specs.declared.Effect.TheVariants.{Kept, Narrowed}
use Rattle.bank.specs.declared.Refusal.{Refusal}
use Rattle.bank.specs.declared.Refusal.TheVariants.{NotLive, NoSpare, BadConstraint, BadVariable, Contradiction, TextTooLong}
use Rattle.bank.specs.Kinds.{Assignment, Condition, holds_at}
use Rattle.bank.specs.Calls.{Tells}
use Rattle.records.specs.declared.slots.Slot.{Slot}
use Rattle.records.specs.Slots.{live_at, holding}
use Rattle.records.proofs.Places.{live_is, live_within}
use Rattle.records.proofs.Writes.{unchanged, kept_all, accepted}
use Rattle.semitones.specs.declared.cells.Edge.{Edge}
use Rattle.semitones.specs.Whole.{whole}
use Rattle.semitones.specs.Cells.{Record, solves, shown, stores, Sound}
use Rattle.semitones.specs.Edges.{Edge-of}
use Rattle.semitones.specs.Joins.{says, Joins}
use Rattle.semitones.specs.laws.Solves.{given, given_solves}
use Rattle.semitones.specs.laws.Laws.{solutions_at}

pub joins_sound : (r s : Record) (e : Edge) (y : Result Effect Refusal) → Sound r → Joins r s e y → Sound s
joins_sound r s e (Ok Kept) S J = subst Sound (sym J.same) S
joins_sound r s e (Ok Narrowed) S J = J.sound
joins_sound r s e (Err Contradiction) S J = subst Sound (sym J.same) S
joins_sound r s e (Err NotLive) S J = absurd J
joins_sound r s e (Err NoSpare) S J = absurd J
joins_sound r s e (Err BadConstraint) S J = absurd J
joins_sound r s e (Err BadVariable) S J = absurd J
joins_sound r s e (Err TextTooLong) S J = absurd J

module _ (slots : List (Slot Record)) (spare i : ℕ) (was : live_at slots i ≡ true) (past : Slot Record) where
  -- the record of store i, and its slot with another
  abbrev r : Record
  r = (get_or slots i past).record

  abbrev changed : Record → Slot Record
  changed s = holding s (get_or slots i past)

  still_live : (get_or slots i past).live ≡ true
  still_live = sym (live_is slots i past (live_within slots i was)) ∙ was

  written_back : (s : Record) → s ≡ r → set slots i (changed s) ≡ slots
  written_back s e = ap (λ (x : Record). set slots i (changed x)) e ∙ set-get_or slots i past

  module _ (c : Condition) (e : Edge) (E : Edge-of c e) (S : Sound r) where
    holds : (σ : Assignment) → (solves r σ && says e σ) ≡ ((stores slots spare).solutions i σ && holds_at whole c σ)
    holds σ =
        ap (λ (b : Bool). b && says e σ) (sym (solutions_at slots i was past spare σ))
        ∙ ap (λ (b : Bool). (stores slots spare).solutions i σ && b) (sym (E.holds σ))

    pub tells : (s : Record) (y : Result Effect Refusal) → Joins r s e y → Tells whole 256 (stores slots spare) (stores (set slots i (changed s)) spare) i c y
    tells s (Ok Kept) J =
        subst (λ (after : List (Slot Record)). Tells whole 256 (stores slots spare) (stores after spare) i c (Ok Kept)) (sym (written_back s J.same))
        (kept_all whole 256 (stores slots spare) i c was E.formed E.within (λ σ. solutions_at slots i was past spare σ ∙ J.always σ ∙ holds σ)
        (given r, solutions_at slots i was past spare (given r) ∙ given_solves r S))
    tells s (Ok Narrowed) J =
        accepted solves shown slots i (changed s) (live_within slots i was) whole 256 spare c was E.formed E.within still_live (λ σ. J.solutions σ ∙ holds σ)
        (given s, given_solves s J.sound)
    tells s (Err Contradiction) J =
        subst (λ (after : List (Slot Record)). Tells whole 256 (stores slots spare) (stores after spare) i c (Err Contradiction)) (sym (written_back s J.same))
        (record { was = was; formed = E.formed; within = E.within; never = λ σ. sym (holds σ) ∙ J.never σ; same = unchanged (stores slots spare) })
    tells s (Err NotLive) J = absurd J
    tells s (Err NoSpare) J = absurd J
    tells s (Err BadConstraint) J = absurd J
    tells s (Err BadVariable) J = absurd J
    tells s (Err TextTooLong) J = absurd J

-- What a bank's `print` answers, by what it wrote: a text, or a part that is zero. Assumes nothing.
use Rattle.std.proofs.Common.{◌≡◌, ℕ, ◌<◌, true, List, length, Some, None, Option, sym, ap, ◌∙◌}
use Rattle.std.specs.Option.{ok_or}
use Rattle.bank.specs.declared.Refusal.TheVariants.{TextTooLong}
use Rattle.bank.specs.Calls.{Prints}
use Rattle.bank.specs.Views.{Meaning}
use Rattle.texts.proofs.Laying.{Written, laid_front, laid_rest}

pub prints : (V : ℕ) (m : Meaning) (s x : ℕ) (p q t : List ℕ) → m.live s ≡ true → x < V → m.text s x ≡ t → (r : Option ℕ) → Written p t r q → Prints V m s x p q (ok_or r TextTooLong)
prints V m s x p q t live within is (Some n) L =
    record {
      live = live;
      within = within;
      long = L.len ∙ ap length (sym is);
      room = L.room;
      front = laid_front p t q n L ∙ sym is;
      rest = laid_rest p t q n L;
    }
prints V m s x p q t live within is None W = record { live = live; within = within; long = rw is W.0; zero = W.1 }

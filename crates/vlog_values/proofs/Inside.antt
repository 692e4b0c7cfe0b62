-- A width that reaches past every net, cut.
use Rattle.std.proofs.Common.{◌≡◌, ℕ, ◌+◌, ◌^◌, ◌<◌, Bool, ◌&&◌, List, min, Option, Some, None, refl, ap, arith}
use Rattle.std.specs.Prelude.{nat_le}
use Rattle.std.proofs.lemmas.Bool.Decides.{nat_tests}
use Rattle.bit_base.specs.declared.place.Place.{Place}
use Rattle.vlog_values.specs.declared.facts.Facts.{Facts}
use Rattle.vlog_values.specs.declared.sized.Signal.{Signal}
use Rattle.vlog_values.specs.Places.{lies_in}
use Rattle.vlog_values.specs.Outcomes.{inside, place_in}

lies_at_most : (signal : Signal) (low : Option ℕ) (n : ℕ) → signal.lsb < 2 ^ 32 → signal.width < 2 ^ 32 → lies_in signal low (min n (2 ^ 33)) ≡ lies_in signal low n
lies_at_most signal None n h k = refl
lies_at_most signal (Some low) n h k = ap (λ b. nat_le signal.lsb low && b) (reach low n (signal.lsb + signal.width) (omega arith)) where
  reach : (low n end_ : ℕ) → end_ < 2 ^ 33 → nat_le (low + min n (2 ^ 33)) end_ ≡ nat_le (low + n) end_
  reach low n end_ h = grind (arith, nat_tests)

pub inside_at_most : (signal : Signal) (bracket : Place) (facts : Facts) (n : ℕ) (bits : List Bool) → signal.lsb < 2 ^ 32 → signal.width < 2 ^ 32
    → inside signal bracket facts (min n (2 ^ 33)) bits ≡ inside signal bracket facts n bits
inside_at_most signal bracket facts n bits h k = rw (lies_at_most signal (place_in facts bits) n h k) refl

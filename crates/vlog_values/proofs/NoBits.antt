-- Where no net has a true bit, the bits of nets and selects are false.
use Rattle.std.proofs.Common.{◌≡◌, ℕ, zero, suc, ◌+◌, Bool, true, false, ◌&&◌, replicate, refl, ℤ, pos, negsuc}
use Rattle.std.specs.Prelude.{◌+ℤ◌, nat_le, nat_lt}
use Rattle.vlog_values.specs.declared.sized.Signal.{Signal}
use Rattle.vlog_values.specs.Places.{places_from, net_bit, net_bits, select_bits, no_values}

all_false : (f : ℕ → Bool) → ((k : ℕ) → f k ≡ false) → (start count : ℕ) → places_from f start count ≡ replicate count false
all_false f none start zero = refl
all_false f none start (suc count) = rw (none start, all_false f none (start + 1) count) refl

and_false : (b : Bool) → (b && false) ≡ false
and_false true = refl
and_false false = refl

none_at : (signal : Signal) (z : ℤ) → net_bit no_values signal z ≡ false
none_at signal (pos place) = and_false (nat_le signal.lsb place && nat_lt place (signal.lsb + signal.width))
none_at signal (negsuc n) = refl

pub none_selected : (signal : Signal) (low : ℤ) (width : ℕ) → select_bits no_values signal low width ≡ replicate width false
unfolding select_bits
none_selected signal low width = all_false (λ k. net_bit no_values signal (low +ℤ pos k)) (λ k. none_at signal (low +ℤ pos k)) 0 width

pub none_set : (signal : Signal) → net_bits no_values signal ≡ replicate signal.width false
unfolding net_bits
none_set signal = all_false (λ i. false) (λ k. refl) 0 signal.width

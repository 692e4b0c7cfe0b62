-- Steps of doubling.
use Rattle.std.proofs.Common.{◌≡◌, ℕ, zero, suc, ◌+◌, ◌-◌, ◌<◌, ◌≤◌, true, false, nat_le, refl, arith}
use Rattle.std.proofs.lemmas.Bool.Decides.{nat_tests}
use Rattle.rdl_layout.specs.Sizes.{doubled}

-- it stays where it isn't below the number
pub stays : (left p n : ℕ) → nat_le n p ≡ true → doubled left p n ≡ p
unfolding doubled
stays zero p n e = refl
stays (suc left) p n e = rw e refl

goes_on : (left p n : ℕ) → nat_le n p ≡ false → doubled (suc left) p n ≡ doubled left (p + p) n
unfolding doubled
goes_on left p n e = rw e refl

pub goes : (at p n : ℕ) → at < 33 → nat_le n p ≡ false → doubled (33 - at) p n ≡ doubled (33 - (at + 1)) (p + p) n
goes at p n lt e =
    let s : 33 - at ≡ suc (33 - (at + 1)) = omega (arith, lt) in
    rw s (goes_on (33 - (at + 1)) p n e)

none_left : (p n : ℕ) → doubled zero p n ≡ p
unfolding doubled
none_left p n = refl

pub ends : (at p n : ℕ) → 33 ≤ at → doubled (33 - at) p n ≡ p
ends at p n le = let z : 33 - at ≡ 0 = omega (arith, le) in rw z (none_left p n)

pub is_le : (a b : ℕ) → a ≤ b → nat_le a b ≡ true
is_le a b le = grind (arith, nat_tests, le)

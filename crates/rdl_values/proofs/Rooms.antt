-- A number of 64 bits has room in 64 bits and more.
use Rattle.std.proofs.Common.{◌≡◌, ℕ, ◌<◌, ◌≤◌, ◌^◌, false, arith, nat_le, sym}
use Rattle.std.proofs.Math.Nat.{pow-le-pow_right}
use Rattle.std.proofs.lemmas.Bool.{lt-leb}

pub has_room : (width n : ℕ) → 64 ≤ width → n < 18446744073709551616 → false ≡ nat_le (2 ^ width) n
has_room width n wide fits =
    let p : 2 ^ 64 ≤ 2 ^ width = pow-le-pow_right (omega arith) wide in
    let q : n < 2 ^ width = omega (arith, p, fits) in
    sym (lt-leb (2 ^ width) n q)

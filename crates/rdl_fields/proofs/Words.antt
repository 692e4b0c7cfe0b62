-- A bus word of a register stands no further behind its address than its bits do.
use Rattle.std.proofs.Common.{ℕ, ◌*◌, ◌/◌, ◌≤◌, arith}
use Rattle.std.proofs.Math.Nat.{mul-div-le, div-le_self, mul-le-mul_right}

pub bytes_below : (access low : ℕ) → access / 8 * (low / access) ≤ low
bytes_below access low =
    let p : access / 8 * (low / access) ≤ access * (low / access) = mul-le-mul_right (low / access) (div-le_self access 8) in
    let q : access * (low / access) ≤ low = mul-div-le low access in
    omega (arith, p, q)

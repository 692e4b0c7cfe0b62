use Rattle.std.proofs.Common.{arith, length, ◌≤◌, ◌*◌}
use Rattle.std.proofs.lemmas.Nat.{mul-le}
use Rattle.gates_tests.proofs.words.applied.Goals as goal

pub mul-requires-clause-room : goal.mul-requires-clause-room
mul-requires-clause-room c =
    let rows : 11 * length c.args.a.now ≤ 88 = omega (arith, c.requires.few) in
    omega (arith, mul-le (length c.args.a.now) (11 * length c.args.a.now) 8 88 c.requires.few rows)

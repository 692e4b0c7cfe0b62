use Rattle.std.proofs.Common.{◌≤◌, arith}
use Rattle.std.proofs.Math.Pow.{pow_mono}
use Rattle.machine_map_tests.proofs.plain.low.Goals as goal

pub returns-else-width-lt32 : goal.returns-else-width-lt32
returns-else-width-lt32 c =
    let wide : 32 ≤ c.args.width = omega (arith, c.if-width-lt32.false) in
    omega (arith, pow_mono wide, c.ranges.number.fits)

use Rattle.bit_base.proofs.NumberLaws.{power-enough, less-not-enough}
use Rattle.bit_base.proofs.laws.logarithm_is_least.Goals as goal

pub returns : goal.returns
returns c = record {
  power_is_enough = power-enough;
  less_is_not_enough = less-not-enough;
}

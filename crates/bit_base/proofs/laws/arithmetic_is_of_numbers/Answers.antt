use Rattle.bit_base.proofs.NumberLaws.{number_of-quotient, number_of-remainder, number_of-power, signed_number_of-low_bits}
use Rattle.bit_base.proofs.laws.arithmetic_is_of_numbers.Goals as goal

pub returns : goal.returns
returns c = record {
  number_of_quotient = number_of-quotient;
  number_of_remainder = number_of-remainder;
  number_of_power = number_of-power;
  signed_number_of_low_bits = signed_number_of-low_bits;
}

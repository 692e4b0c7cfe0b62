use Rattle.bit_base.proofs.Numbers.{number_of-low_bits, low_bits-number_of}
use Rattle.bit_base.proofs.laws.bits_and_numbers_are_inverse.Goals as goal

pub returns : goal.returns
returns c = record {
  number_of_low_bits = number_of-low_bits;
  low_bits_of_number = low_bits-number_of;
}

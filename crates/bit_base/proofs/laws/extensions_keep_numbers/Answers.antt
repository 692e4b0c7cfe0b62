use Rattle.bit_base.proofs.Numbers.{number_of-extended, signed_number_of-extended, number_of-extended_cut, number_of-sliced}
use Rattle.bit_base.proofs.laws.extensions_keep_numbers.Goals as goal

pub returns : goal.returns
returns c = record {
  unsigned_extension_keeps = number_of-extended;
  signed_extension_keeps = signed_number_of-extended;
  number_of_cut = number_of-extended_cut;
  number_of_slice = number_of-sliced;
}

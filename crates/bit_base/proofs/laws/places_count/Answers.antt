use Rattle.bit_base.proofs.Numbers.{number_of-below, number_of-push, signed_number_of-push, number_of-append}
use Rattle.bit_base.proofs.laws.places_count.Goals as goal

pub returns : goal.returns
returns c = record {
  number_is_below = number_of-below;
  place_counts = number_of-push;
  sign_counts_down = signed_number_of-push;
  number_of_joined = number_of-append;
}

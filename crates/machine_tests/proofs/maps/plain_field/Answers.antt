use Rattle.std.proofs.Common.{refl}
use Rattle.machine_tests.proofs.OneFieldLemmas.{letter_path}
use Rattle.machine_tests.proofs.maps.plain_field.Goals as goal

pub returns : goal.returns
returns c = record {
  word = refl;
  lsb = refl;
  some = c.requires.some;
  width = c.requires.word;
  stored = refl;
  fits = c.requires.reset;
  unknown = c.requires.unknown;
  path = letter_path _ c.in_ok-path.ensures;
  source = c.data_of-data_in.ensures;
  data_gate = λ g p. cc;
  set = c.set_of-set.ensures;
  clear = λ e p. cc;
  bit_gate = c.enable_of-bit_gate.ensures;
  sw_gate = λ g p. cc;
  incr = λ e p. cc;
  decr = λ e p. cc;
  filter = refl;
  up = λ k p. cc;
  down = λ k p. cc;
  counter_known = λ p. cc;
  intr_known = λ p. cc;
  intr_source = λ p. cc;
  members = λ i k p. cc;
  rising = λ i j a b lt p q. cc;
  member = λ i k p. cc;
  overflow = λ p. cc;
  underflow = λ p. cc;
  intr = λ p. cc;
}

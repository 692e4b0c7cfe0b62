use Rattle.std.proofs.Common.{◌≡◌, length}
use Rattle.cert_text.specs.Numbers.{number_of}
use Rattle.cert_text.specs.Lines.{each_of}
use Rattle.cert_text.proofs.WordLemmas.{behind}
use Rattle.cert_text.proofs.chains.numbers_of.Given as goal

abbrev pub invariant-loop-word : goal.invariant-loop-word
invariant-loop-word l = behind l.numbers.items (each_of number_of l.words) ≡ each_of number_of l.fn.words

abbrev pub decreases-loop-word : goal.decreases-loop-word
decreases-loop-word l = length l.words

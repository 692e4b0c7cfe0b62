use Rattle.std.proofs.Common.{◌≡◌, length}
use Rattle.cert_text.specs.Lines.{before_slash}
use Rattle.cert_text.proofs.WordLemmas.{behind_both}
use Rattle.cert_text.proofs.chains.before_slash.Given as goal

abbrev pub invariant-loop-word : goal.invariant-loop-word
invariant-loop-word l = behind_both l.numbers.items (before_slash l.words) ≡ before_slash l.fn.words

abbrev pub decreases-loop-word : goal.decreases-loop-word
decreases-loop-word l = length l.words

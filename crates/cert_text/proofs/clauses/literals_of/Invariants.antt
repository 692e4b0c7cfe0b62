use Rattle.std.proofs.Common.{◌≡◌, length}
use Rattle.cert_text.specs.Lines.{each_of, literal_of}
use Rattle.cert_text.proofs.WordLemmas.{behind}
use Rattle.cert_text.proofs.clauses.literals_of.Given as goal

abbrev pub invariant-loop-word : goal.invariant-loop-word
invariant-loop-word l = behind l.literals.items (each_of (literal_of l.latches) l.words) ≡ each_of (literal_of l.latches) l.fn.words

abbrev pub decreases-loop-word : goal.decreases-loop-word
decreases-loop-word l = length l.words

use Rattle.std.proofs.Common.{◌≡◌, ◌++◌, map, drop}
use Rattle.rdl_words.specs.declared.word.Word.{Word}
use Rattle.rdl_numbers.proofs.order.addresses_of.Given as goal

abbrev pub invariant-loop-word : goal.invariant-loop-word
invariant-loop-word l = l.out.items ++ map (λ (w : Word). w.address) (drop l.word-index l.words) ≡ map (λ (w : Word). w.address) l.words

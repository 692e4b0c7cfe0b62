use Rattle.std.proofs.Common.{◌≡◌, ◌++◌, drop, map}
use Rattle.cert_text.specs.Text.{literal_word, spaced}
use Rattle.cert_text.proofs.write.push_literals.Given as goal

-- the text so far, and then the other literals, are the whole
abbrev pub invariant-loop-literal : goal.invariant-loop-literal
invariant-loop-literal l = l.text.items ++ spaced (map literal_word (drop l.literal-index l.literals)) ≡ l.fn.text.items ++ spaced (map literal_word l.literals)

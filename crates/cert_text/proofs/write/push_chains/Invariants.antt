use Rattle.std.proofs.Common.{◌≡◌, ◌++◌, drop, take, map}
use Rattle.std.specs.List.{All}
use Rattle.lemma_checker.specs.Checker.{link}
use Rattle.cert_text.specs.Laws.{IsSmall}
use Rattle.cert_text.specs.Text.{chain_line, text_of_lines}
use Rattle.cert_text.proofs.write.push_chains.Given as goal

-- the text so far, and then the lines of the other chains, are the whole
abbrev pub invariant-loop-chain : goal.invariant-loop-chain
invariant-loop-chain l = record {
  text : l.text.items ++ text_of_lines (map chain_line (map link (drop l.chain-index l.chains))) ≡ l.fn.text.items ++ text_of_lines (map chain_line (map link l.chains));
  small : All IsSmall (map link (take l.chain-index l.chains));
}

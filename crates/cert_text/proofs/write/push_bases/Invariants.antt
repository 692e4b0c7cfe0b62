use Rattle.std.proofs.Common.{◌≡◌, ◌+◌, ◌++◌, drop, take, map}
use Rattle.std.specs.List.{All}
use Rattle.lemma_checker.specs.Checker.{link}
use Rattle.cert_text.specs.Laws.{IsSmall}
use Rattle.cert_text.specs.Text.{query_lines, text_of_lines}
use Rattle.cert_text.proofs.write.push_bases.Given as goal

-- the text so far, and then the lines of the other queries, are the whole
abbrev pub invariant-loop-chains : goal.invariant-loop-chains
invariant-loop-chains l = record {
  number : l.j ≡ l.chains-index;
  text : l.text.items ++ text_of_lines (query_lines l.k (l.chains-index + 1) (map (λ b. map link b.items) (drop l.chains-index l.bases))) ≡ l.fn.text.items ++ text_of_lines (query_lines l.k 1 (map (λ b. map link b.items) l.bases));
  small : All (All IsSmall) (map (λ b. map link b.items) (take l.chains-index l.bases));
}

use Rattle.std.proofs.Common.{map, [], ◌∷◌}
use Rattle.lemma_checker.specs.Checker.{link}
use Rattle.cert_text.specs.Laws.{IsSmall}
use Rattle.cert_text.specs.Text.{chain_line, text_of_lines}
use Rattle.cert_text.proofs.WriteLemmas.{loop_text, loop_all, all_done, line_first}
use Rattle.cert_text.proofs.write.push_chains.Goals as goal

pub loop-chain-preserved : goal.loop-chain-preserved
loop-chain-preserved c = record {
  text = loop_text (λ j x. text_of_lines (chain_line (link x) ∷ [])) (λ j xs. text_of_lines (map chain_line (map link xs))) c.args.chains.now c.loop-chain.chain-index c.chain-item.result _ _ _
      (λ j y ys. line_first chain_line j (link y) (map link ys)) c.loop-chain-test.true c.chain-item.is c.in_ok-push_chain.ensures.text c.loop-chain.invariant.text;
  small = loop_all link IsSmall c.args.chains.now c.loop-chain.chain-index c.chain-item.result c.loop-chain-test.true c.chain-item.is c.in_ok-push_chain.ensures.small c.loop-chain.invariant.small;
}

pub returns-clause-small : goal.returns-clause-small
returns-clause-small c = all_done link IsSmall c.args.chains.now c.loop-chain.chain-index c.loop-chain-test.false c.loop-chain.invariant.small

use Rattle.std.proofs.Common.{◌≡◌, ◌+◌, ◌++◌, map, [], ◌∷◌, ap, ◌∙◌, subst, arith}
use Rattle.std.specs.List.{All}
use Rattle.lemma_checker.specs.Checker.{link}
use Rattle.cert_text.specs.Laws.{IsSmall}
use Rattle.cert_text.specs.Text.{query_lines, text_of_lines}
use Rattle.cert_text.proofs.WriteLemmas.{loop_text, loop_all, all_done, query_first}
use Rattle.cert_text.proofs.write.push_bases.Goals as goal

pub loop-chains-preserved : goal.loop-chains-preserved
loop-chains-preserved c =
    let i = c.loop-chains.chains-index in
    let number : c.loop-chains.j + 1 ≡ i + 1 = omega (arith, c.loop-chains.invariant.number) in
    let pushed : c.push_query.new.text.items ≡ c.loop-chains.text.items ++ text_of_lines (query_lines c.args.k (i + 1) (map link c.chains-item.result.items ∷ [])) =
    c.in_ok-push_query.ensures.text
    ∙ (ap (λ j. c.loop-chains.text.items ++ text_of_lines (query_lines c.args.k j (map link c.as_slice.result.now ∷ []))) number
    ∙ ap (λ xs. c.loop-chains.text.items ++ text_of_lines (query_lines c.args.k (i + 1) (map link xs ∷ []))) c.as_slice.ensures.value) in
    record {
      number = number;
      text = loop_text (λ j b. text_of_lines (query_lines c.args.k (j + 1) (map link b.items ∷ []))) (λ j bs. text_of_lines (query_lines c.args.k (j + 1) (map (λ b. map link b.items) bs))) c.args.bases.now i c.chains-item.result _ _ _
          (query_first (λ b. map link b.items) c.args.k) c.loop-chains-test.true c.chains-item.is pushed c.loop-chains.invariant.text;
      small = loop_all (λ b. map link b.items) (All IsSmall) c.args.bases.now i c.chains-item.result c.loop-chains-test.true c.chains-item.is (subst (λ xs. All IsSmall (map link xs)) c.as_slice.ensures.value c.in_ok-push_query.ensures.small) c.loop-chains.invariant.small;
    }

pub returns-clause-small : goal.returns-clause-small
returns-clause-small c = all_done (λ b. map link b.items) (All IsSmall) c.args.bases.now c.loop-chains.chains-index c.loop-chains-test.false c.loop-chains.invariant.small

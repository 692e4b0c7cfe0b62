use Rattle.std.proofs.Common.{[], ◌∷◌, ◌++◌, ap, ◌∙◌, map}
use Rattle.lemma_checker.specs.Checker.{link}
use Rattle.cert_text.specs.Lines.{due_after}
use Rattle.cert_text.specs.Text.{chain_line, text_of_lines}
use Rattle.cert_text.proofs.WriteLemmas.{behind}
use Rattle.cert_text.proofs.write.push_query.Goals as goal

pub returns-clause-text : goal.returns-clause-text
returns-clause-text c =
    behind (map chain_line (map link c.args.chains.now)) (due_after c.args.k c.args.j ∷ []) c.args.text.now.items c.push_chains.new.text.items c.push_line.new.text.items
    c.in_ok-push_chains.ensures.text
    (c.in_ok-push_line.ensures ∙ ap (λ line. c.push_chains.new.text.items ++ text_of_lines (line ∷ [])) (c.as_slice.ensures.value ∙ c.in_ok-due.ensures))

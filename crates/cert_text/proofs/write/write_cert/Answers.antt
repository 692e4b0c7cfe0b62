use Rattle.std.proofs.Common.{map, ◌∙◌, sym, subst}
use Rattle.std.proofs.lemmas.List.{length-map}
use Rattle.lemma_checker.specs.Checker.{link}
use Rattle.cert_text.specs.Accepting.{parts_of}
use Rattle.cert_text.specs.Reading.{IsCertificate}
use Rattle.cert_text.specs.Text.{cert_text}
use Rattle.cert_text.proofs.WriteLemmas.{whole_text, safe_proof, base_links}
use Rattle.cert_text.proofs.WrittenSteps.{written_accepted}
use Rattle.cert_text.proofs.write.write_cert.Goals as goal

pub returns-clause-text : goal.returns-clause-text
unfolding cert_text
returns-clause-text c =
    let safe = c.args.safe.now in
    whole_text safe.k safe.set.clauses.items (map link safe.set.chains.items) (map link safe.step.items) (base_links safe) c.push_head.new.text.items c.push_query.new.text.items c.push_bases.new.text.items c.push_query-2.new.text.items
    (length-map safe.bases.items (λ b. map link b.items) ∙ safe.counted)
    (rw (c.as_slice.ensures.value, c.new-text.ensures.items) at c.in_ok-push_head.ensures.text)
    (rw c.as_slice-2.ensures.value at c.in_ok-push_query.ensures.text)
    (rw c.as_slice-3.ensures.value at c.in_ok-push_bases.ensures.text)
    (rw c.as_slice-4.ensures.value at c.in_ok-push_query-2.ensures.text)

pub returns-clause-accepted : goal.returns-clause-accepted
returns-clause-accepted c = subst (λ text. ∥ IsCertificate c.args.safe.now.circuit text (parts_of c.args.safe.now) ∥₁) (sym (returns-clause-text c))
    (written_accepted c.args.safe.now.circuit (parts_of c.args.safe.now) (safe_proof c.args.safe.now
    (rw c.as_slice.ensures.value at c.in_ok-push_head.ensures.apart)
    (rw c.as_slice-2.ensures.value at c.in_ok-push_query.ensures.small)
    (rw c.as_slice-3.ensures.value at c.in_ok-push_bases.ensures.small)
    (rw c.as_slice-4.ensures.value at c.in_ok-push_query-2.ensures.small)))

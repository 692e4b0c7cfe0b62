use Rattle.std.proofs.Common.{sym, ◌∙◌, true≢false}
use Rattle.std.proofs.lemmas.Option.{slice_get-get_or}
use Rattle.std.proofs.lemmas.List.{take_more}
use Rattle.lemma_checker.proofs.CollectLemmas.{distinct_push}
use Rattle.lemma_checker.proofs.clause.are_distinct.Goals as goal

pub returns-then-has_number : goal.returns-then-has_number
returns-then-has_number c = (λ e. absurd (true≢false (sym e)), λ d. absurd (true≢false (sym c.if-has_number.true ∙ (c.has_number.ensures ∙ d.once c.loop-i.i _ (slice_get-get_or c.args.literals.now c.loop-i.i (record { 0 = 0 }) c.loop-i-test.true)))))

pub loop-i-preserved : goal.loop-i-preserved
loop-i-preserved c = rw (take_more c.args.literals.now c.loop-i.i (record { 0 = 0 }) c.loop-i-test.true) (distinct_push _ _ c.loop-i.invariant (sym c.has_number.ensures ∙ c.if-has_number.false))

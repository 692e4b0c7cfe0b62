use Rattle.std.proofs.Common.{◌∙◌, ◌+◌, ℕ, ap, length, sym, arith}
use Rattle.std.proofs.lemmas.List.{length_push}
use Rattle.invariant_miner.proofs.SampleLemmas.{starts_more, after_more, starts_all, after_all}
use Rattle.invariant_miner.proofs.samples.start_row.Goals as goal

pub loop-latch-preserved : goal.loop-latch-preserved
loop-latch-preserved c =
    let i = c.loop-latch.invariant in
    record {
      lanes = λ r lt. rw (c.in_ok-push.ensures.items, c.start_word.ensures.state) (starts_more c.args.latches.now c.loop-latch.latch-index _ c.loop-latch.rng c.loop-latch.row.items c.start_word.result r c.loop-latch-test.true (c.start_word.ensures.word r lt) ∙ i.lanes r lt);
      long = ap length c.in_ok-push.ensures.items ∙ (length_push c.loop-latch.row.items c.start_word.result ∙ ap (λ (n : ℕ). n + 1) i.long);
      state = rw c.start_word.ensures.state (after_more c.args.latches.now c.loop-latch.latch-index _ c.loop-latch.rng c.loop-latch-test.true ∙ i.state);
    }

pub returns-clause-lanes : goal.returns-clause-lanes
returns-clause-lanes c = λ r lt. sym (starts_all c.args.latches.now c.loop-latch.latch-index c.loop-latch.rng c.loop-latch.row.items r (omega arith)) ∙ c.loop-latch.invariant.lanes r lt

pub returns-clause-state : goal.returns-clause-state
returns-clause-state c = sym (after_all c.args.latches.now c.loop-latch.latch-index c.loop-latch.rng (omega arith)) ∙ c.loop-latch.invariant.state

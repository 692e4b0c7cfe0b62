use Rattle.std.proofs.Common.{◌≡◌, length, Some, slice_get, refl}
use Rattle.std.proofs.lemmas.Option.{slice_get_read}
use Rattle.invariant_miner.proofs.SiftLemmas.{runs_more}
use Rattle.invariant_miner.proofs.sift.meeting.Goals as goal

pub loop-clause-preserved : goal.loop-clause-preserved
loop-clause-preserved c =
    let here : slice_get c.args.clauses.now c.loop-clause.clause-index ≡ Some c.clause-item.result = slice_get_read c.args.clauses.now (length c.args.clauses.now) c.loop-clause.clause-index c.clause-item.result refl c.loop-clause-test.true c.clause-item.is in
    λ r lt. runs_more c.args.row.now c.args.clauses.now c.loop-clause.clause-index c.loop-clause.word c.clause_word-word.result r c.clause-item.result here (c.loop-clause.invariant r lt) (c.clause_word-word.ensures.bits r lt)

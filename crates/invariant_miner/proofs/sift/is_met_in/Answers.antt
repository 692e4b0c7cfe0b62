use Rattle.std.proofs.Common.{ℕ, ◌≤◌, ◌<◌, ◌^◌, bit_and, w64, arith}
use Rattle.std.specs.Int.{bit_not}
use Rattle.std.proofs.lemmas.Nat.{and_le_l}
use Rattle.invariant_miner.proofs.SiftLemmas.{met_by_word}
use Rattle.invariant_miner.proofs.sift.is_met_in.Goals as goal

pub returns : goal.returns
returns c =
    let bound : bit_and c.args.runs (bit_not w64 c.clause_word.result) ≤ c.args.runs = and_le_l c.args.runs (bit_not w64 c.clause_word.result) in
    met_by_word c.args.runs c.args.row.now c.args.clause.now c.clause_word.result (omega (arith, bound, c.ranges.runs.fits)) c.clause_word.ensures.small c.clause_word.ensures.bits

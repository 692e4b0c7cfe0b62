use Rattle.std.proofs.Common.{arith, ◌<◌, ◌≤◌, ◌^◌, ◌∙◌, ap, bit_or, bit_and, w64, ℕ}
use Rattle.std.specs.Int.{bit_not}
use Rattle.std.proofs.lemmas.Nat.{or_lt, and_le_l}
use Rattle.invariant_miner.specs.Lanes.{bit}
use Rattle.invariant_miner.proofs.RowLemmas.{row_by_word, word_bits}
use Rattle.invariant_miner.proofs.rows.holds_in_row.Goals as goal

pub returns : goal.returns
returns c =
    let held : ℕ = bit_or c.literal_word.result c.literal_word-2.result in
    let held_small : held < 2 ^ 64 = or_lt 64 c.literal_word.result c.literal_word-2.result c.literal_word.ensures.small c.literal_word-2.ensures.small in
    let live_small : c.word_of-live.result < 2 ^ 64 = omega (arith, c.word_of-live.ensures, c.type_inv.row 0) in
    let word : ℕ = bit_and c.word_of-live.result (bit_not w64 held) in
    let bound : word ≤ c.word_of-live.result = and_le_l c.word_of-live.result (bit_not w64 held) in
    row_by_word c.args.row.now c.args.x c.args.y word (omega arith)
    (λ r lt. ap (λ (v : ℕ). bit r (bit_and v (bit_not w64 held))) c.word_of-live.ensures ∙ word_bits c.args.row.now c.args.x c.args.y c.literal_word.result c.literal_word-2.result r held_small lt (c.literal_word.ensures.bits r lt) (c.literal_word-2.ensures.bits r lt))

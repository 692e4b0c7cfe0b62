use Rattle.std.proofs.Common.{◌≡◌, ◌≤◌, ℕ, take}
use Rattle.vlog_parse.specs.Depth.{IsWithin}
use Rattle.vlog_parse.specs.Counts.{counts_after}
use Rattle.vlog_parse.proofs.depth.first_deep.Given as goal

abbrev pub invariant-loop-token : goal.invariant-loop-token
invariant-loop-token l = (l.now ≡ counts_after (take l.token-index l.tokens)) × ((k : ℕ) → k ≤ l.token-index → IsWithin (take k l.tokens))

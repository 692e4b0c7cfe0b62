use Rattle.std.proofs.Common.{◌≡◌, ◌≤◌, ℕ, take}
use Rattle.rdl_parse.specs.Depth.{open_after}
use Rattle.rdl_parse.proofs.reading.first_deep.Given as goal

abbrev pub invariant-loop-token : goal.invariant-loop-token
invariant-loop-token l = (l.open ≡ open_after (take l.token-index l.tokens)) × ((k : ℕ) → k ≤ l.token-index → open_after (take k l.tokens) ≤ 64)

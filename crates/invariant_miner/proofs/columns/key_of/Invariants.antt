use Rattle.std.proofs.Common.{◌≡◌, ℕ, ◌<◌, ◌≤◌, ◌^◌, get_or, length, map, []}
use Rattle.invariant_miner.specs.Columns.{column_key}
use Rattle.invariant_miner.proofs.columns.key_of.Given as goal

abbrev pub invariant-loop-row : goal.invariant-loop-row
invariant-loop-row l = record {
  key : l.key ≡ column_key (map (λ v. v.items) l.rows) l.inverted l.n l.row-index;
  words : (k i : ℕ) → k < l.row-index → get_or (get_or (map (λ v. v.items) l.rows) k []) i 0 < 2 ^ 64;
  within : l.row-index ≤ length l.rows;
}

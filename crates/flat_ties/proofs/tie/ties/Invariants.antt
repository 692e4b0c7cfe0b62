use Rattle.std.proofs.Common.{◌≡◌, ℕ, drop}
use Rattle.flat_ties.specs.Ties as spec
use Rattle.flat_ties.proofs.tie.ties.Given as goal

abbrev pub invariant-loop-k : goal.invariant-loop-k
invariant-loop-k l = (m : ℕ) → spec.net_in l.table.items m ≡ spec.tied (drop l.k l.items) m

use Rattle.std.proofs.Common.{◌≡◌, ◌+◌, ◌≤◌, ◌^◌, min, map, drop, sum}
use Rattle.flat_rules.proofs.rule.sizes_of.Given as goal

abbrev pub invariant-loop-part : goal.invariant-loop-part
invariant-loop-part l = record { small : l.sum ≤ 2 ^ 32; sum : min (l.sum + sum (map (λ p. p.size) (drop l.part-index l.parts))) (2 ^ 32) ≡ min (sum (map (λ p. p.size) l.parts)) (2 ^ 32) }

use Rattle.std.proofs.Common.{◌≡◌, ◌&&◌, map, drop}
use Rattle.std.specs.List.{list_all}
use Rattle.flat_rules.specs.Rules as spec
use Rattle.flat_rules.proofs.rule.+rule.Given as goal

abbrev pub invariant-all_obey-loop-part : goal.invariant-all_obey-loop-part
invariant-all_obey-loop-part l = l.all && list_all (λ p. p.obeys) (map (spec.rules l.nets) (drop l.part-index l.parts)) ≡ list_all (λ p. p.obeys) (map (spec.rules l.nets) l.parts)

use Rattle.std.proofs.Common.{◌≡◌, ℕ, ◌++◌, false, List, map, drop}
use Rattle.flat_design.specs.Flows as spec
use Rattle.flat_paths.specs.Paths.{walk, walk_all}
use Rattle.flat_flows.specs.Arms.{arms_before}
use Rattle.flat_latches.specs.Latches.{LeadsOn}
use Rattle.flat_latches.proofs.path.+paths.Given as goal

-- a path through the other statements ends one through all, and a bit that each path through them assigns is assigned
abbrev pub invariant-path_through-loop-s : goal.invariant-path_through-loop-s
invariant-path_through-loop-s l = record {
  leads : (more : List ℕ) → LeadsOn (walk_all (map (walk l.nets l.bit) (drop l.s-index l.body))) more → LeadsOn (walk_all (map (walk l.nets l.bit) l.body)) (l.path.items ++ more);
  leaves : (spec.all_before (map (spec.flow l.nets) (drop l.s-index l.body))).leaves l.bit ≡ false → (spec.all_before (map (spec.flow l.nets) l.body)).leaves l.bit ≡ false;
}

-- the arms so far assign the bit
abbrev pub invariant-path_of_arms-loop-number : goal.invariant-path_of_arms-loop-number
invariant-path_of_arms-loop-number l = (g : spec.Flow) → (arms_before l.nets l.arms g).leaves l.bit ≡ (arms_before l.nets (drop l.number l.arms) g).leaves l.bit

use Rattle.std.proofs.Common.{◌<◌}
use Rattle.flat_design.specs.declared.item.FlatItem.{FlatItem}
use Rattle.flat_latched.specs.Least.{IsAt}
use Rattle.flat_latched.proofs.latched.item_at.Given as goal

-- none of the items before
abbrev pub invariant-loop-k : goal.invariant-loop-k
invariant-loop-k l = (x : FlatItem) → (h : IsAt l.items l.found l.offence x) → h.number < l.k → ⊥

use Rattle.std.proofs.Common.{◌≡◌, ◌<◌, Some, slice_get, ℕ}
use Rattle.field_policies.specs.declared.policy.PolicyRow.{PolicyRow}
use Rattle.field_policies.specs.Policies.{HasRow}
use Rattle.field_policies.proofs.table.policy_of.Given as goal

-- no row before this one is the field's
abbrev pub invariant-loop-i : goal.invariant-loop-i
invariant-loop-i l = (k : ℕ) → k < l.i → (r : PolicyRow) → slice_get l.table.rows k ≡ Some r → HasRow l.field r → ⊥

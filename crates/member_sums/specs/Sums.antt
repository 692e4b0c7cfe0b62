-- What the interrupt fields of all registers weigh together (SystemRDL 2.0, clause 9, interrupt properties; the weights are the
-- project's own).
use Rattle.std.specs.Prelude.{ℕ, ◌+◌, ◌*◌, ◌≤◌, List, slice_get}
use Rattle.std.specs.Option.{option_map_or}
use Rattle.std.specs.List.{sum_by}
use Rattle.field_policies.specs.declared.field.Field.{Field}
use Rattle.field_policies.specs.declared.map.RegMap.{RegMap}
use Rattle.field_policies.specs.Expressions.{width_at}
use Rattle.field_policies.specs.Fields.{members_of}

-- what the field of this number weighs
abbrev pub weight_at : List Field → (Field → ℕ) → ℕ → ℕ
weight_at fields weight k = option_map_or weight (slice_get fields k) 0

-- each field is at most once in all the lists
abbrev pub MembersAreOnce : Type 0
MembersAreOnce = (map_of : RegMap) (weight : Field → ℕ) → sum_by (λ f. sum_by (weight_at map_of.fields.items weight) (members_of f.extra)) map_of.fields.items ≤ sum_by weight map_of.fields.items

-- at two a place of each field and one more
abbrev pub RaisesAreFew : Type 0
RaisesAreFew = (map_of : RegMap) → sum_by (λ f. sum_by (λ k. 2 * width_at map_of.fields.items k + 1) (members_of f.extra)) map_of.fields.items ≤ 3 * sum_by (λ f. f.width) map_of.fields.items

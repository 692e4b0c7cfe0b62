-- How many gates a register map takes before its outputs.
use Rattle.std.specs.Prelude.{ℕ, ◌+◌, ◌*◌, ◌≤◌, length}
use Rattle.std.specs.List.{sum_by}
use Rattle.field_policies.specs.declared.map.RegMap.{RegMap}
use Rattle.map_edges.specs.Edges.{edge_gates_of}
use Rattle.map_answers.specs.Answers.{data_gates_of}

-- what all fields look at, where an address has so many places
abbrev pub around_nodes : RegMap → ℕ → ℕ
around_nodes map_of places = 5 * sum_by (λ f. f.width) map_of.fields.items + map_of.bus_width + length map_of.words.items * (places + 3) + 1

-- the fields, the latches and the answer
abbrev pub core_nodes : RegMap → ℕ
core_nodes map_of = sum_by edge_gates_of map_of.fields.items + sum_by data_gates_of map_of.fields.items + length map_of.fields.items * 33 + length map_of.words.items * 2 + 2

abbrev pub NodesAreFew : Type 0
NodesAreFew = (map_of : RegMap) (places : ℕ) → places ≤ 32 → around_nodes map_of places + core_nodes map_of ≤ 64 * length map_of.words.items + 176 * sum_by (λ f. f.width) map_of.fields.items + 35

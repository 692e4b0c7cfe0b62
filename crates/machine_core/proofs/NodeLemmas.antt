-- How many gates a register map takes.
use Rattle.std.proofs.Common.{◌≡◌, ℕ, zero, suc, true, ◌+◌, ◌*◌, ◌≤◌, List, [], ◌∷◌, length, slice_get, Some, refl, arith}
use Rattle.std.specs.List.{sum_by}
use Rattle.std.proofs.lemmas.Bool.Decides.{nat_tests}
use Rattle.std.proofs.lemmas.List.Sums.{sum_by-cons}
use Rattle.field_policies.specs.declared.field.Field.{Field}
use Rattle.field_policies.specs.declared.map.RegMap.{RegMap}
use Rattle.field_policies.specs.Maps.{is_bus_width}
use Rattle.word_gates.proofs.WordLemmas.{within_all}
use Rattle.map_edges.specs.Edges.{edge_gates_of}
use Rattle.map_answers.specs.Answers.{data_gates_of}
use Rattle.machine_core.specs.Nodes.{NodesAreFew}

few_fields : (fields : List Field) → ((n : ℕ) (f : Field) → slice_get fields n ≡ Some f → 1 ≤ f.width)
    → sum_by edge_gates_of fields + sum_by data_gates_of fields + length fields * 33 + 5 * sum_by (λ f. f.width) fields ≤ 176 * sum_by (λ f. f.width) fields
few_fields [] some = omega arith
few_fields (f ∷ fields) some =
    let rest = few_fields fields (λ n g at. some (suc n) g at) in
    let one : 1 ≤ f.width = some 0 f refl in
    omega (arith, rest, one, sum_by-cons edge_gates_of f fields, sum_by-cons data_gates_of f fields, sum_by-cons (λ (f : Field). f.width) f fields)

bus_small : (w : ℕ) → is_bus_width w ≡ true → w ≤ 32
bus_small w h = grind (arith, nat_tests)

turned : (a b : ℕ) → a * b ≡ b * a
turned a b = grind arith

pub few : NodesAreFew
few map_of places small =
    let fields = few_fields map_of.fields.items map_of.in_words.some in
    let words : (places + 3) * length map_of.words.items ≤ 35 * length map_of.words.items = within_all (length map_of.words.items) (places + 3) 35 (omega arith) in
    omega (arith, fields, words, turned (length map_of.words.items) (places + 3), bus_small map_of.bus_width map_of.bus.width)

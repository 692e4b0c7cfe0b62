-- Which parts make a circuit.
use Rattle.std.specs.Prelude.{◌≡◌, ◌+◌, ◌^◌, ◌<◌, ◌≤◌, length, All}
use Rattle.std.specs.List.Sorted.{IsStrictlyIncreasing}
use Rattle.gate_graph.specs.declared.circuits.Circuit.{Circuit}
use Rattle.gate_graph.specs.declared.parts.CircuitParts.{CircuitParts}
use Rattle.gate_graph.specs.Gates.{IsOf, latch_count, input_count}
use Rattle.gate_graph.specs.Latches.{StartsAtZero}

-- a graph of at most 2^20 nodes with as many latch and input nodes as there are latches and inputs, wires of it, latch 0
-- that starts at 0, an address within the inputs, and at most 48 control latches, rising, without latch 0
pub record IsCircuit (p : CircuitParts) : Type 0 where
  pub few : length p.graph ≤ 2 ^ 20
  pub latched : latch_count p.graph ≡ length p.latches.items
  pub numbered : input_count p.graph ≡ p.inputs
  pub nexts : All (λ l. IsOf l.next p.graph) p.latches.items
  pub bad_of : IsOf p.bad p.graph
  pub live : StartsAtZero p.latches.items
  pub address_width : p.address_bits ≤ 32
  pub address_within : p.address_first + p.address_bits ≤ p.inputs
  pub control_few : length p.control.items ≤ 48
  pub control_latches : All (λ n. (0 < n) × (n < length p.latches.items)) p.control.items
  pub control_rising : IsStrictlyIncreasing p.control.items

-- the parts of a circuit
abbrev pub parts_of : Circuit → CircuitParts
parts_of c = record {
  graph = c.graph;
  latches = c.latches;
  inputs = c.inputs;
  bad = c.bad;
  address_first = c.address_first;
  address_bits = c.address_bits;
  addresses = c.addresses;
  control = c.control;
}

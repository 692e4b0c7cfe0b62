-- Which graph each call builds, as a function of its arguments.
use Rattle.std.specs.Prelude.{ℕ, List}
use Rattle.gate_graph.specs.declared.wires.Wire.{Wire}
use Rattle.gate_graph.specs.declared.nodes.Node.{Node}
use Rattle.gate_graph.specs.Gates.{IsOf, AreOf}
use Rattle.gate_graph.specs.Sharing.{and_of}
use Rattle.word_gates.specs.Graphs.{inverse, number_made}
use Rattle.event_gates.specs.declared.hits.EventGates.{EventGates}

-- the wires are of the graph
pub record AreEvents (nodes : List Node) (e : EventGates) : Type 0 where
  pub read_of : IsOf e.read nodes
  pub write_of : IsOf e.write nodes
  pub address_of : AreOf e.address.items nodes
  pub payload_of : AreOf e.payload.items nodes
  pub strobe_of : AreOf e.strobe.items nodes

-- the event writes
unfoldable pub only_write_made : List Node → EventGates → Wire × List Node
only_write_made ns e = and_of ns e.write (inverse e.read)

-- it reads, and writes, the word at the address
unfoldable pub hit_made : List Node → EventGates → ℕ → (Wire × Wire) × List Node
hit_made ns e address =
    let at = number_made ns e.address.items address in
    let only = only_write_made at.1 e in
    let reads = and_of only.1 e.read at.0 in
    let writes = and_of reads.1 only.0 at.0 in
    ((reads.0, writes.0), writes.1)

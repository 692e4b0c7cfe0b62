-- The words that a bus event is at.
use Rattle.std.specs.Prelude.{◌≡◌, ℕ, Bool, List, Some, slice_get, map}
use Rattle.gate_graph.specs.declared.wires.Wire.{Wire}
use Rattle.gate_graph.specs.declared.nodes.Node.{Node}
use Rattle.gate_graph.specs.Gates.{Means}
use Rattle.reg_machine.specs.Steps.{is_read_of, is_write_of}
use Rattle.event_gates.specs.declared.hits.EventGates.{EventGates}
use Rattle.event_gates.specs.declared.hits.HitGates.{HitGates}
use Rattle.event_gates.specs.Events.{event_at}
use Rattle.event_gates.specs.Graphs.{hit_made}
use Rattle.field_edges.specs.Made.{each_made}

-- the event reads, and writes, the word at the address
pub record IsHit (nodes : List Node) (event : EventGates) (address : ℕ) (h : HitGates) : Type 0 where
  pub reads : Means nodes h.reads (λ v. is_read_of (event_at v event) address)
  pub writes : Means nodes h.writes (λ v. is_write_of (event_at v event) address)

-- and each word's
abbrev pub AreHits : List Node → EventGates → List ℕ → List HitGates → Type 0
AreHits nodes event words hits = (k : ℕ) (h : HitGates) → slice_get hits k ≡ Some h → (a : ℕ) → slice_get words k ≡ Some a → IsHit nodes event a h

-- which graph it is
abbrev pub hit_wires : HitGates → Wire × Wire
hit_wires h = (h.reads, h.writes)

abbrev pub hits_of : List HitGates → List (Wire × Wire)
hits_of hits = map hit_wires hits

unfoldable pub hits_made : List Node → EventGates → List ℕ → List (Wire × Wire) × List Node
hits_made ns event words = each_made (λ g a. hit_made g event a) ns words

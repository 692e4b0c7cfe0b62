use Rattle.std.proofs.Common.{◌≡◌, ◌∙◌, sym, arith, Some, None}
use Rattle.std.specs.HashMap.{get}
use Rattle.gate_graph.specs.Held.{pair_eq}
use Rattle.gate_graph.specs.Sharing.{gate_from}
use Rattle.gate_graph.proofs.SharingLemmas.{gate_from-within, held_and}
use Rattle.gate_graph.proofs.graphs.Graph.gate.Goals as goal

pub overflow_mul-result : goal.overflow_mul-result
overflow_mul-result c =
    let found : gate_from c.args.a c.args.b 0 c.self.inside.nodes.items ≡ Some c.in-Some.found.now = sym (c.self.invariant.shared c.args.a c.args.b) ∙ sym c.in-Some.ensures.value in
    omega (arith, gate_from-within c.args.a c.args.b 0 c.in-Some.found.now c.self.inside.nodes.items found, c.self.invariant.small)

pub invariant_of-self-in-Ok : goal.invariant_of-self-in-Ok
invariant_of-self-in-Ok c =
    let none : get pair_eq c.self.inside.gates (c.args.a.0, c.args.b.0) ≡ None = sym (rw c.in_default.is at c.get.ensures.value) in
    rw c.in_ok-push.ensures.items
    (held_and c.self.inside.nodes.items c.self.inside.latches c.self.inside.inputs c.len-place.result c.args.a c.args.b (get pair_eq c.self.inside.gates) (get pair_eq c.insert.new.self)
    (omega arith) c.self.invariant (rw c.self.view_is c.requires.room) (rw c.self.view_is c.requires.low) none (λ q. c.in-Ok.ensures.updates.0 q))

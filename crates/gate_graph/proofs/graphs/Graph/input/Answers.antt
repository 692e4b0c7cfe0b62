use Rattle.std.proofs.Common.{arith}
use Rattle.gate_graph.proofs.GateLemmas.{keeps_push}
use Rattle.gate_graph.proofs.SharingLemmas.{held_input, held_within}
use Rattle.gate_graph.proofs.graphs.Graph.input.Goals as goal

pub overflow_add-self : goal.overflow_add-self
overflow_add-self c = let within = held_within _ _ _ _ c.self.invariant in omega (arith, within, c.self.invariant.small)

pub invariant_of-self-2 : goal.invariant_of-self-2
invariant_of-self-2 c = rw c.in_ok-push.ensures.items (held_input _ _ _ _ c.self.invariant (rw c.self.view_is c.requires))

pub returns-clause-keeps : goal.returns-clause-keeps
returns-clause-keeps c = rw (c.in_ok-push.ensures.items, ← c.self.view_is) (keeps_push _ _)

use Rattle.std.proofs.Common.{◌≡◌, ◌+◌, ◌*◌, ◌<◌, ◌≤◌, ◌^◌, Some, length, map, get_or, ap, sym, ◌∙◌, refl, arith, length-append, ◌∷◌, []}
use Rattle.std.proofs.lemmas.List.{map_push, get_or_default}
use Rattle.std.proofs.lemmas.Option.{slice_get-get_or}
use Rattle.std.proofs.lemmas.Nat.{row_fits}
use Rattle.gate_graph.proofs.GateLemmas.{extends_more, extends_none}
use Rattle.event_gates.specs.Graphs.{hit_made}
use Rattle.event_gates.proofs.EventLemmas.{events_later}
use Rattle.field_edges.specs.Made.{each_made}
use Rattle.field_edges.proofs.LoopLemmas.{each_more, each_end, facts_push}
use Rattle.word_gates.proofs.WordLemmas.{room_at}
use Rattle.map_edges.specs.Hits.{IsHit, hits_made, hit_wires}
use Rattle.map_edges.proofs.EdgeLemmas.{hits_push, hits_none}
use Rattle.map_edges.proofs.hits.hit_words.Goals as goal

pub hit_gates-requires-clause-event : goal.hit_gates-requires-clause-event
hit_gates-requires-clause-event c = events_later _ _ _ _ c.loop-n.invariant.extends c.requires.event

pub hit_gates-requires-clause-room : goal.hit_gates-requires-clause-room
hit_gates-requires-clause-room c =
    omega (arith, room_at (length c.args.event.now.address.items + 3) c.loop-n.n (length c.args.words.now) (length c.args.graph.now) (length c.loop-n.graph) c.loop-n.invariant.extends.bound c.loop-n-test.true c.requires.room)

pub loop-n-init : goal.loop-n-init
loop-n-init c = rw c.new-hits.ensures.items record { size = refl; extends = extends_none _ _; hits = hits_none _ _ _; exact = refl }

pub loop-n-preserved : goal.loop-n-preserved
loop-n-preserved c =
    let next : c.loop-n.n * (length c.args.event.now.address.items + 3) + (length c.args.event.now.address.items + 3) ≡ (c.loop-n.n + 1) * (length c.args.event.now.address.items + 3) = grind arith in
    rw c.in_ok-push.ensures.items record {
      size = omega (arith, length-append c.loop-n.hits.items (c.in_ok-hit.hit ∷ []), c.loop-n.invariant.size);
      extends = extends_more _ _ _ _ _ _ c.loop-n.invariant.extends c.hit_gates.ensures.nodes (omega (arith, next));
      hits = hits_push _ _ _ c.loop-n.n c.args.event.now c.args.words.now c.loop-n.hits.items c.in_ok-hit.hit _ c.hit_gates.ensures.nodes c.loop-n.invariant.size (slice_get-get_or c.args.words.now c.loop-n.n 0 c.loop-n-test.true) c.loop-n.invariant.hits
          record { reads = c.in_ok-hit.ensures.reads; writes = c.in_ok-hit.ensures.writes };
      exact = rw (map_push hit_wires c.loop-n.hits.items c.in_ok-hit.hit)
          (each_more (λ g a. hit_made g c.args.event.now a) c.args.graph.now c.args.words.now c.loop-n.n (get_or c.args.words.now c.loop-n.n 0) _ _ _ _ c.loop-n-test.true
          (get_or_default c.args.words.now c.loop-n.n (get_or c.args.words.now c.loop-n.n 0) 0 c.loop-n-test.true) c.in_ok-hit.ensures.exact c.loop-n.invariant.exact);
    }

pub returns-clause-exact : goal.returns-clause-exact
unfolding hits_made
returns-clause-exact c = each_end (λ g a. hit_made g c.args.event.now a) _ c.args.words.now c.loop-n.n _ c.loop-n-test.false c.loop-n.invariant.exact

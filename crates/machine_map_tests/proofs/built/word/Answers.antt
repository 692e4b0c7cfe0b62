use Rattle.std.proofs.Common.{arith, refl, ap, length, length-append, ◌∷◌, [], ◌≡◌, ◌+◌, ◌∙◌}
use Rattle.gate_graph.proofs.GateLemmas.{keeps_more, keeps_gates, extends_none}
use Rattle.word_gates.proofs.WordLemmas.{are_of_push, are_of_none, are_of_kept}
use Rattle.machine_map_tests.proofs.built.word.Goals as goal

pub loop-i-init : goal.loop-i-init
loop-i-init c = rw c.new-wires.ensures.items record { of = are_of_none _; size = refl; grown = omega arith; keeps = keeps_gates _ _ 0 (extends_none _ 0) }

pub loop-i-preserved : goal.loop-i-preserved
loop-i-preserved c =
    let more : length c.input.new.self ≡ length c.loop-i.graph + 1 = ap length c.in_ok-wire.ensures.added ∙ length-append c.loop-i.graph _ in
    rw c.in_ok-push.ensures.items record {
      of = are_of_push _ _ _ (are_of_kept _ _ _ c.input.ensures.keeps c.loop-i.invariant.of) (omega (arith, c.in_ok-wire.ensures.wire, more));
      size = omega (arith, length-append c.loop-i.wires.items (c.in_ok-wire.wire ∷ []), c.loop-i.invariant.size);
      grown = omega (arith, more, c.loop-i.invariant.grown);
      keeps = keeps_more _ _ _ c.loop-i.invariant.keeps c.input.ensures.keeps;
    }

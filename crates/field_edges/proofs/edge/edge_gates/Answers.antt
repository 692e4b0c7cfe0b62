use Rattle.std.proofs.Common.{ap, ◌∙◌, ◌≡◌}
use Rattle.gate_graph.specs.Gates.{Respects, wire_value}
use Rattle.gate_graph.proofs.GateLemmas.{respects_old, means_later, are_of_later}
use Rattle.word_gates.proofs.WordLemmas.{means_same, shows_same}
use Rattle.reg_machine.specs.Steps as machine
use Rattle.field_gates.specs.Laws.{places}
use Rattle.field_gates.specs.SeenGates.{seen_at}
use Rattle.field_gates.proofs.StepLemmas.{step_is}
use Rattle.field_edges.proofs.MadeLemmas.{edge_steps}
use Rattle.field_edges.proofs.edge.edge_gates.Goals as goal

pub returns-clause-next : goal.returns-clause-next
returns-clause-next c = λ e n p. record {
  software = means_same _ _ _ _ c.in_ok-step.ensures.software (λ v r.
      let before : Respects v c.seen_gates.new.graph = respects_old v _ _ _ c.field_step.ensures.nodes r in
      (step_is (e v) c.args.field.now (n v) (seen_at v c.in_ok-at.at.seen) (c.in_ok-at.ensures.sees e n p v before)).software
      ∙ ap (λ w. machine.is_software_active (e v) c.args.field.now (wire_value v w)) c.in_ok-at.ensures.flags.0);
  value = shows_same _ _ _ _ c.in_ok-step.ensures.value (λ v r.
      let before : Respects v c.seen_gates.new.graph = respects_old v _ _ _ c.field_step.ensures.nodes r in
      (step_is (e v) c.args.field.now (n v) (seen_at v c.in_ok-at.at.seen) (c.in_ok-at.ensures.sees e n p v before)).bits
      ∙ ap (λ w. places c.args.field.now (machine.next_bit (e v) c.args.field.now (wire_value v w) (n v))) c.in_ok-at.ensures.flags.0);
  used = means_same _ _ _ _ c.in_ok-step.ensures.used (λ v r.
      let before : Respects v c.seen_gates.new.graph = respects_old v _ _ _ c.field_step.ensures.nodes r in
      (step_is (e v) c.args.field.now (n v) (seen_at v c.in_ok-at.at.seen) (c.in_ok-at.ensures.sees e n p v before)).used
      ∙ ap (λ w. machine.next_used (e v) c.args.field.now (wire_value v w)) c.in_ok-at.ensures.flags.0);
  known = means_same _ _ _ _ c.in_ok-step.ensures.known (λ v r.
      let before : Respects v c.seen_gates.new.graph = respects_old v _ _ _ c.field_step.ensures.nodes r in
      (step_is (e v) c.args.field.now (n v) (seen_at v c.in_ok-at.at.seen) (c.in_ok-at.ensures.sees e n p v before)).known
      ∙ (ap (λ w. machine.next_known (e v) c.args.field.now (wire_value v w) (wire_value v c.in_ok-at.at.seen.known) (n v)) c.in_ok-at.ensures.flags.0
      ∙ ap (λ w. machine.next_known (e v) c.args.field.now (wire_value v c.args.state.now.used) (wire_value v w) (n v)) c.in_ok-at.ensures.flags.1));
  over = means_later _ _ _ _ _ c.field_step.ensures.nodes (c.in_ok-at.ensures.over e n p);
  under = means_later _ _ _ _ _ c.field_step.ensures.nodes (c.in_ok-at.ensures.under e n p);
  enabled = record {
    of = are_of_later _ _ _ _ c.field_step.ensures.nodes c.in_ok-at.ensures.seen.enabled_of;
    value = λ v r. (c.in_ok-at.ensures.sees e n p v (respects_old v _ _ _ c.field_step.ensures.nodes r)).enabled;
  };
}

pub returns-clause-exact : goal.returns-clause-exact
returns-clause-exact c =
    edge_steps c.args.field.now c.args.graph.now _ _ _ _ _ _ _ _ _ _ _ _ _ _ _ c.in_ok-at.ensures.exact c.in_ok-step.ensures.exact

use Rattle.std.proofs.Common.{refl, ap, ◌∙◌, ◌&&◌}
use Rattle.bit_base.specs.Numbers.{number_of}
use Rattle.gate_graph.specs.Gates.{Respects, wire_value}
use Rattle.gate_graph.proofs.GateLemmas.{respects_old}
use Rattle.word_gates.specs.Words.{values}
use Rattle.word_gates.proofs.WordLemmas.{means_same}
use Rattle.map_answers.proofs.ErrorLemmas.{unmapped_is}
use Rattle.map_answers.proofs.error.error_wire.Goals as goal

pub returns-clause-wire : goal.returns-clause-wire
returns-clause-wire c = means_same _ _ _ _ c.only_if-wire.ensures.wire (λ v r.
    let second : Respects v c.or_wire.new.graph = respects_old v _ _ _ c.and.ensures.extends r in
    let first : Respects v c.found_wire.new.graph = respects_old v _ _ _ c.or_wire.ensures.extends second in
    rw (c.in_ok-unmapped.ensures.wire.value v r, c.in_ok-some.ensures.wire.value v second, c.inverted.ensures.value v, c.in_ok-found.ensures.wire.value v first)
    (ap (λ b. c.args.event.now.unmapped_error && b)
    (unmapped_is (wire_value v c.args.event.now.read) (wire_value v c.args.event.now.write) (number_of (values v c.args.event.now.address.items)) (number_of (values v c.args.event.now.payload.items)) (number_of (values v c.args.event.now.strobe.items)) c.args.words.now)))

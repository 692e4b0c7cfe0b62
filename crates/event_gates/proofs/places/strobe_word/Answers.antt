use Rattle.std.proofs.Common.{List, [], ◌∷◌, ◌++◌, ◌+◌, ◌/◌, get_or, length, ◌≡◌, sym, ap, ◌∙◌, arith}
use Rattle.std.proofs.lemmas.List.FromFn.{map-range_with_len_more, length-map-range_with_len}
use Rattle.gate_graph.specs.declared.wires.Wire.{Wire}
use Rattle.word_gates.specs.Graphs.{off}
use Rattle.event_gates.proofs.places.strobe_word.Goals as goal

pub loop-i-preserved : goal.loop-i-preserved
loop-i-preserved c =
    c.in_ok-push.ensures.items
    ∙ (ap (λ (ws : List Wire). ws ++ get_or c.args.strobe.now ((c.args.field.now.lsb + c.loop-i.i) / 8) off ∷ []) c.loop-i.invariant
    ∙ sym (map-range_with_len_more (λ i. get_or c.args.strobe.now ((c.args.field.now.lsb + i) / 8) off) 0 c.loop-i.i c.loop-i.i (omega arith)))

pub returns-clause-length : goal.returns-clause-length
returns-clause-length c =
    let e : length c.loop-i.wires.items ≡ c.loop-i.i = ap length c.loop-i.invariant ∙ length-map-range_with_len (λ i. get_or c.args.strobe.now ((c.args.field.now.lsb + i) / 8) off) 0 c.loop-i.i in
    omega (arith, e)

use Rattle.std.proofs.Common.{◌≡◌, ◌∙◌, ◌++◌, List, Bool, [], sym, ap, subst, append-nil}
use Rattle.std.proofs.lemmas.List.{drop_all}
use Rattle.trace_replay.specs.Joint.{pins_of, state_after}
use Rattle.trace_replay.specs.LegalTrace.{IsLegalTrace}
use Rattle.trace_replay.specs.Trace.{choices_of, edge_bits, edges_from, joint_edges, lists_of}
use Rattle.trace_replay.proofs.TraceLemmas.{same_get}
use Rattle.trace_replay.proofs.RunLemmas.{run-push, run-legal, run-end}
use Rattle.trace_replay.proofs.trace.trace_of.Goals as goal

pub loop-input-preserved : goal.loop-input-preserved
loop-input-preserved c =
    run-push c.args.block.now c.loop-input.state c.args.inputs.now c.loop-input.input-index _ c.loop-input.edges.items c.in_ok-edge_bits.field-0 c.push.new.self.items c.step.new.self
    c.loop-input-test.true (same_get c.args.inputs.now c.loop-input.input-index _ _ c.loop-input-test.true)
    (c.in_ok-edge_bits.ensures ∙ ap edge_bits c.pins.ensures ∙ ap (λ w. edge_bits (pins_of c.loop-input.state w)) c.wires-wires.ensures) (c.step.ensures ∙ ap (state_after c.args.block.now c.loop-input.state) c.wires-wires.ensures) c.in_ok-push.ensures.items
    ∙ c.loop-input.invariant

pub returns-clause-legal : goal.returns-clause-legal
returns-clause-legal c =
    let whole : lists_of c.loop-input.edges.items ≡ joint_edges c.args.block.now c.args.start_bits.now c.args.inputs.now =
    run-end c.args.block.now c.loop-input.state c.args.inputs.now c.loop-input.input-index c.loop-input.edges.items _ c.loop-input-test.false c.loop-input.invariant in
    let P : List Bool → Type 0 = λ s. IsLegalTrace c.args.block.now s (lists_of c.loop-input.edges.items) in
    let Q : List (List Bool) → Type 0 = λ es. IsLegalTrace c.args.block.now c.args.start_bits.now es in
    subst P (sym c.in_ok-from_slice.ensures.items)
    (subst Q (sym whole) (run-legal c.args.block.now c.args.start_bits.now c.args.inputs.now c.requires.start c.requires.few c.requires.fit))

use Rattle.std.proofs.Common.{refl}
use Rattle.gate_graph.specs.Gates.{AreOf}
use Rattle.machine_map_tests.proofs.TestLemmas.{front_of, back_of}
use Rattle.machine_map_tests.proofs.built.machine_of.Goals as goal

pub build_machine-requires-clause-state_of : goal.build_machine-requires-clause-state_of
build_machine-requires-clause-state_of c =
    let all : AreOf c.as_slice.result.now c.word.new.graph = rw c.as_slice.ensures.value c.in_ok-wires.ensures.of in
    front_of c.word.new.graph c.as_slice.result.now c.split_at.result.0.now c.split_at.result.0.now _ refl c.split_at.ensures.front all

pub build_machine-requires-clause-event : goal.build_machine-requires-clause-event
build_machine-requires-clause-event c =
    let all : AreOf c.as_slice.result.now c.word.new.graph = rw c.as_slice.ensures.value c.in_ok-wires.ensures.of in
    let rest = back_of c.word.new.graph c.as_slice.result.now c.split_at.result.1.now _ c.split_at.ensures.back all in
    c.in_ok-event.ensures.of c.word.new.graph (front_of c.word.new.graph c.split_at.result.1.now c.split_at-2.result.0.now c.split_at-2.result.0.now _ refl c.split_at-2.ensures.front rest)

pub build_machine-requires-clause-inputs : goal.build_machine-requires-clause-inputs
build_machine-requires-clause-inputs c =
    let all : AreOf c.as_slice.result.now c.word.new.graph = rw c.as_slice.ensures.value c.in_ok-wires.ensures.of in
    let rest = back_of c.word.new.graph c.as_slice.result.now c.split_at.result.1.now _ c.split_at.ensures.back all in
    rw c.as_slice-2.ensures.value (c.in_ok-hw.ensures c.word.new.graph (back_of c.word.new.graph c.split_at.result.1.now c.split_at-2.result.1.now _ c.split_at-2.ensures.back rest))

use Rattle.std.proofs.Common.{◌≡◌, ◌*◌, ◌<◌, Some, [], ◌∷◌, length, slice_get, refl, ap, sym, ◌∙◌, arith, length-append}
use Rattle.std.proofs.lemmas.Option.{slice_get_read, same_Some}
use Rattle.std.specs.declared.vec.Vec.{Vec}
use Rattle.std.specs.declared.alloc.Global.{Global}
use Rattle.field_policies.specs.declared.signal.HwInput.{HwInput}
use Rattle.gate_graph.specs.declared.wires.Wire.{Wire}
use Rattle.gate_graph.specs.Gates.{AreOf}
use Rattle.field_edges.proofs.LoopLemmas.{facts_push}
use Rattle.machine_map_tests.proofs.TestLemmas.{inputs_small, front_of, back_of}
use Rattle.machine_map_tests.proofs.built.hw_words.Goals as goal

pub split_at-requires-in-loop-k : goal.split_at-requires-in-loop-k
split_at-requires-in-loop-k c =
    let lt : c.loop-k.k < length c.args.map.now.inputs.items = omega (arith, c.loop-k-test.true, c.len-k-end.ensures) in
    let at : slice_get c.args.map.now.inputs.items c.loop-k.k ≡ Some c.index.result.now = slice_get_read _ _ _ _ refl lt c.index.ensures in
    omega (arith, inputs_small c.args.map.now c.loop-k.k c.index.result.now at, c.split_at.ensures.back_len, c.requires, lt)

pub loop-k-preserved : goal.loop-k-preserved
loop-k-preserved c =
    let lt : c.loop-k.k < length c.args.map.now.inputs.items = omega (arith, c.loop-k-test.true, c.len-k-end.ensures) in
    let at : slice_get c.args.map.now.inputs.items c.loop-k.k ≡ Some c.index.result.now = slice_get_read _ _ _ _ refl lt c.index.ensures in
    let long : length c.in_ok-word.word.items ≡ c.index.result.now.width = ap length c.in_ok-word.ensures ∙ c.split_at-in-loop-k.ensures.front_len in
    rw c.in_ok-push.ensures.items record {
      size = omega (arith, length-append c.loop-k.hw.items (c.in_ok-word.word ∷ []), c.loop-k.invariant.size);
      of = λ nodes h. facts_push (λ j (x : Vec Wire Global). AreOf x.items nodes) c.loop-k.hw.items c.in_ok-word.word c.loop-k.k c.loop-k.invariant.size (c.loop-k.invariant.of nodes h)
          (front_of nodes c.split_at.result.1.now c.split_at-in-loop-k.result.0.now c.in_ok-word.word.items c.index.result.now.width c.in_ok-word.ensures c.split_at-in-loop-k.ensures.front (back_of nodes c.args.wires.now c.split_at.result.1.now (32 * c.loop-k.k) c.split_at.ensures.back h));
      width = facts_push (λ j (x : Vec Wire Global). (h : HwInput) → slice_get c.args.map.now.inputs.items j ≡ Some h → length x.items ≡ h.width) c.loop-k.hw.items c.in_ok-word.word c.loop-k.k c.loop-k.invariant.size c.loop-k.invariant.width
          (λ h there. long ∙ ap (λ (y : HwInput). y.width) (same_Some c.index.result.now h (sym at ∙ there)));
    }

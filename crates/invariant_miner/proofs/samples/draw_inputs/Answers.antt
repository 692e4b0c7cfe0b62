use Rattle.std.proofs.Common.{◌≡◌, ◌+◌, ℕ, List, Option, arith, ◌∙◌, ap, get_or, subst}
use Rattle.invariant_miner.specs.Draws.{word, later, word_at}
use Rattle.invariant_miner.specs.Lanes.{bit}
use Rattle.invariant_miner.specs.Samples.{taken_address, input_with}
use Rattle.invariant_miner.proofs.DrawLemmas.{later_add}
use Rattle.invariant_miner.proofs.SampleLemmas.{ArePut, puts_none, puts_more, puts_all}
use Rattle.invariant_miner.proofs.samples.draw_inputs.Goals as goal

pub loop-r-init : goal.loop-r-init
loop-r-init c = puts_none c.args.circuit.now c.args.rng.now _ (λ i lt. c.draw_all.ensures.words i (omega (arith, c.requires.inputs)))

pub loop-r-preserved : goal.loop-r-preserved
loop-r-preserved c =
    let z : ℕ = get_or c.draw_all-2.new.words c.loop-r.r 0 in
    let taken : c.taken_address-taken.result ≡ taken_address c.args.circuit.now.addresses.items z = c.taken_address-taken.ensures ∙ ap (λ (xs : List ℕ). taken_address xs z) c.as_slice.ensures.value in
    let behind : c.draw_all.new.rng ≡ later c.args.circuit.now.inputs c.args.rng.now = c.draw_all.ensures.state ∙ ap (λ (n : ℕ). later n c.args.rng.now) c.requires.inputs in
    let z_is : z ≡ word_at c.args.rng.now (c.args.circuit.now.inputs + c.loop-r.r) =
    c.draw_all-2.ensures.words c.loop-r.r (omega (arith, c.requires.runs)) ∙ (ap (λ (g : List ℕ). word_at g c.loop-r.r) behind ∙ ap word (later_add c.args.circuit.now.inputs c.loop-r.r c.args.rng.now)) in
    puts_more c.args.circuit.now c.args.rng.now c.loop-r.inputs c.put_address.new.inputs c.loop-r.r z (omega arith) z_is
    (λ i. c.put_address.ensures.own i ∙ ap (λ (o : Option ℕ). input_with c.args.circuit.now.address_first c.args.circuit.now.address_bits o i (bit c.loop-r.r (get_or c.loop-r.inputs i 0))) taken)
    c.put_address.ensures.others c.loop-r.invariant

pub returns : goal.returns
returns c =
    let all : c.loop-r.r ≡ 64 = omega arith in
    let behind : c.draw_all.new.rng ≡ later c.args.circuit.now.inputs c.args.rng.now = c.draw_all.ensures.state ∙ ap (λ (n : ℕ). later n c.args.rng.now) c.requires.inputs in
    record {
      lanes = λ r lt. puts_all c.args.circuit.now c.args.rng.now c.loop-r.inputs r lt (omega (arith, c.requires.inputs, c.loop-r.auto.inputs)) (subst (ArePut c.args.circuit.now c.args.rng.now c.loop-r.inputs) all c.loop-r.invariant);
      state = c.draw_all-2.ensures.state ∙ (ap (λ (n : ℕ). later n c.draw_all.new.rng) c.requires.runs ∙ (ap (later 64) behind ∙ later_add c.args.circuit.now.inputs 64 c.args.rng.now));
    }

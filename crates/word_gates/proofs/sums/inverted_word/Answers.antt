use Rattle.std.proofs.Common.{arith, refl, not, length-append, ◌∷◌, []}
use Rattle.gate_graph.proofs.GateLemmas.{extends_none}
use Rattle.word_gates.proofs.WordLemmas.{of_here, so_far_more, so_far_all, so_far_none}
use Rattle.word_gates.proofs.PlaceLemmas.{mapped_more, mapped_end}
use Rattle.word_gates.proofs.RippleLemmas.{means_inverted}
use Rattle.word_gates.proofs.ExactLemmas.{inverses_more, inverses_end}
use Rattle.word_gates.proofs.sums.inverted_word.Goals as goal

pub loop-i-init : goal.loop-i-init
loop-i-init c = rw c.new-wires.ensures.items record { size = refl; so_far = λ nodes a. so_far_none _ _; exact = refl }

pub loop-i-preserved : goal.loop-i-preserved
loop-i-preserved c = rw c.in_ok-push.ensures.items record {
  size = omega (arith, length-append c.loop-i.wires.items (c.inverted.result ∷ []), c.loop-i.invariant.size);
  so_far = λ nodes a. so_far_more nodes nodes 0 _ _ _ _ _ _ (extends_none nodes 0) (c.loop-i.invariant.so_far nodes a)
      (means_inverted nodes _ _ (of_here c.args.a.now nodes c.loop-i.i a c.loop-i-test.true) c.inverted.ensures.node c.inverted.ensures.value)
      (λ v r. mapped_more not v c.args.a.now c.loop-i.i c.loop-i-test.true);
  exact = inverses_more c.args.a.now c.loop-i.i c.loop-i.wires.items c.inverted.result c.loop-i-test.true c.inverted.ensures.exact c.loop-i.invariant.exact;
}

pub returns-clause-value : goal.returns-clause-value
returns-clause-value c = λ nodes a. so_far_all _ _ _ _ (c.loop-i.invariant.so_far nodes a) (λ v. mapped_end not v c.args.a.now c.loop-i.i (omega arith))

pub returns-clause-exact : goal.returns-clause-exact
returns-clause-exact c = inverses_end c.args.a.now c.loop-i.i c.loop-i.wires.items c.loop-i-test.false c.loop-i.invariant.exact

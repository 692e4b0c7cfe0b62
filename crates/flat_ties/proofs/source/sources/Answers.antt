use Rattle.std.proofs.Common.{◌∙◌, ◌+◌, ◌∷◌, [], ap, length, arith}
use Rattle.std.proofs.lemmas.List.{length-append}
use Rattle.flat_ties.proofs.Chains.{all_sources, emptied, one_more}
use Rattle.flat_ties.specs.Ties.{net_in}
use Rattle.flat_ties.proofs.source.sources.Goals as goal

pub loop-number-preserved : goal.loop-number-preserved
loop-number-preserved c = record {
  empty = emptied (length c.args.nets.now) c.loop-number.seen c.source_of.new.seen c.clear.new.self c.loop-number.invariant.empty c.in_ok-source.ensures.long c.clear.ensures;
  long = ap length c.in_ok-push.ensures.items ∙ length-append c.loop-number.out.items (c.in_ok-source.source ∷ []) ∙ ap (λ n. n + 1) c.loop-number.invariant.long;
  each = one_more c.args.nets.now c.args.items.now c.loop-number.out.items c.push.new.self.items c.loop-number.number c.in_ok-source.source c.loop-number.invariant.long c.in_ok-push.ensures.items c.loop-number.invariant.each
      (c.in_ok-source.ensures.source c.args.items.now (λ m. ap (λ t. net_in t m) c.as_slice.ensures.value ∙ c.in_ok-ties.ensures m));
}

pub returns : goal.returns
returns c = all_sources c.args.nets.now c.args.items.now c.loop-number.out.items (omega arith) c.loop-number.invariant.each

use Rattle.std.proofs.Common.{◌∙◌, sym, ap, length, arith}
use Rattle.std.specs.Prelude.{false, true, Some}
use Rattle.std.proofs.lemmas.List.{length-set, length-replicate}
use Rattle.flat_ties.proofs.Chains.{way_start, way_on, way_round, way_out, way_untied, way_ended}
use Rattle.flat_ties.proofs.source.source_of.Goals.{then-at-bound-via-then-at-bound, then-at-bound-via-else-at-bound+then-has}
use Rattle.flat_ties.proofs.source.source_of.Goals as goal

pub loop-step-init : goal.loop-step-init
loop-step-init c = record {
  long = ap length c.requires.empty ∙ length-replicate (length c.args.nets.now) false;
  way = λ items are. way_start c.args.nets.now items c.args.net c.args.seen.now c.requires.empty;
}

pub returns-then-at-bound-clause-source : goal.returns-then-at-bound-clause-source
returns-then-at-bound-clause-source c items are = elim c.then-at-bound.branch [
  | then-at-bound-via-then-at-bound w ↦ way_out c.args.nets.now items c.args.net c.loop-step.at c.loop-step._step c.loop-step.seen (c.loop-step.invariant.way items are) (sym c.is_input.ensures ∙ c.if-is_input.false) (omega arith)
  | then-at-bound-via-else-at-bound+then-has w ↦ way_round c.args.nets.now items c.args.net c.loop-step.at c.loop-step._step c.loop-step.seen (c.loop-step.invariant.way items are) (w.has.ensures ∙ ap Some w.if-has.true)
]

pub returns-in-None-clause-source : goal.returns-in-None-clause-source
returns-in-None-clause-source c items are =
    way_untied c.args.nets.now items c.args.net c.loop-step.at c.loop-step._step c.loop-step.seen (c.loop-step.invariant.way items are) (sym c.is_input.ensures ∙ c.if-is_input.false)
    (sym (are c.loop-step.at) ∙ sym c.net_in.ensures ∙ c.in-None.is)

pub loop-step-preserved : goal.loop-step-preserved
loop-step-preserved c = record {
  long = ap length c.in_ok-add.ensures ∙ length-set c.loop-step.seen c.loop-step.at true ∙ c.loop-step.invariant.long;
  way = λ items are.
      way_on c.args.nets.now items c.args.net c.loop-step.at c.in-Some.next c.loop-step._step c.loop-step.seen c.add.new.self (c.loop-step.invariant.way items are) (sym c.is_input.ensures ∙ c.if-is_input.false) (omega arith) (c.has.ensures ∙ ap Some c.if-has.false) c.in_ok-add.ensures
      (sym (are c.loop-step.at) ∙ sym c.net_in.ensures ∙ c.in-Some.is);
}

pub returns-clause-source : goal.returns-clause-source
returns-clause-source c items are = way_ended c.args.nets.now items c.args.net c.loop-step.at c.loop-step._step c.loop-step.seen (c.loop-step.invariant.way items are) (omega arith)

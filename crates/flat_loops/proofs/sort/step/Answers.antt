use Rattle.std.proofs.Common.{◌∙◌, ◌++◌, ◌∷◌, [], true, false, sym, ap}
use Rattle.flat_loops.proofs.SortLemmas.{step_back, step_sorted, step_on, step_round, got}
use Rattle.flat_loops.proofs.sort.step.Goals as goal

pub returns-then-has : goal.returns-then-has
returns-then-has c = record { step = step_back c.args.graph.now c.args.seen.now c.args.done.now c.args.order.now.items c.pop.new.self.items c.args.path.now.items c.in-Some.node c.in-Some.ensures.items c.requires.search (sym c.has.ensures ∙ c.if-has.true) }

pub returns-in_ok-add-in-None : goal.returns-in_ok-add-in-None
returns-in_ok-add-in-None c = record {
  step = step_sorted c.args.graph.now c.args.seen.now c.args.done.now c.add.new.self c.args.order.now.items c.push.new.self.items c.pop.new.self.items c.args.path.now.items c.in-Some.node c.in-Some.ensures.items c.in_ok-push-in-None.ensures.items
      c.requires.search (sym c.has.ensures ∙ c.if-has.false) c.in_ok-add-in-None.ensures.added c.in-None.ensures;
}

pub returns-then-has-2 : goal.returns-then-has-2
returns-then-has-2 c = record {
  step = step_round c.args.graph.now c.args.seen.now c.args.done.now c.args.order.now.items c.pop.new.self.items c.args.path.now.items c.push-in-Some-next_outside.new.self.items c.in-Some.node c.in-Some-next_outside.next c.in-Some.ensures.items
      c.in_ok-push-in-Some-next_outside.ensures.items c.requires.search (got c.args.seen.now c.in-Some-next_outside.next true c.if-has-2.ensures) c.in-Some-next_outside.ensures.1 c.in-Some-next_outside.ensures.0;
}

pub returns-in_ok-push-in-Some-next_outside-2 : goal.returns-in_ok-push-in-Some-next_outside-2
returns-in_ok-push-in-Some-next_outside-2 c = record {
  step = step_on c.args.graph.now c.args.seen.now c.add-in-Some-next_outside.new.self c.args.done.now c.args.order.now.items c.pop.new.self.items c.args.path.now.items c.push-in-Some-next_outside-2.new.self.items c.in-Some.node c.in-Some-next_outside.next
      c.in-Some.ensures.items (c.in_ok-push-in-Some-next_outside-2.ensures.items ∙ ap (λ l. l ++ c.in-Some-next_outside.next ∷ []) (c.in_ok-push-in-Some-next_outside.ensures.items ∙ sym c.in-Some.ensures.items))
      c.in_ok-add-in-Some-next_outside.ensures c.requires.search (c.requires.bounded c.in-Some.node c.in-Some-next_outside.next c.in-Some-next_outside.ensures.0) (got c.args.seen.now c.in-Some-next_outside.next false c.if-has-2.ensures) c.in-Some-next_outside.ensures.0;
}

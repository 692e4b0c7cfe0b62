use Rattle.flat_loops.proofs.SortLemmas.{match_some, loop_back}
use Rattle.flat_loops.proofs.sort.sort_from.Goals as goal

pub returns-in-Some : goal.returns-in-Some
returns-in-Some c = record {
  sorted = loop_back c.args.graph.now c.step.new.path.items c.as_slice.result.now c.in_ok-found.found.items c.in-Some.next c.as_slice.ensures.value (match_some c.in_ok-next.field-0 c.in-Some.next _ _ c.in-Some.is c.in_ok-next.ensures.step) c.in_ok-found.ensures;
}

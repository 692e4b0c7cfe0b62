use Rattle.std.proofs.Common.{sym, ◌∙◌, ap, get_or}
use Rattle.lemma_checker.specs.Clauses.{at}
use Rattle.lemma_checker.proofs.ClauseLemmas.{has_get_or}
use Rattle.watch_lists.proofs.Lists.{has_front}
use Rattle.watch_lists.proofs.TrailLemmas.{quiet_open}
use Rattle.watch_lists.proofs.scan.status_of.Goals as goal

pub returns-then-first-literal : goal.returns-then-first-literal
returns-then-first-literal c =
    let left = rw c.in-Some.is at c.loop-literal.invariant in
    quiet_open _ _ (record {
      first = c.in-Some.first.0;
      second = (get_or c.args.clause.now c.loop-literal.literal-index (record { 0 = 0 })).0;
      first_in = has_front c.loop-literal.literal-index c.args.clause.now c.in-Some.first.0 left.others.member;
      second_in = has_get_or c.args.clause.now c.loop-literal.literal-index (record { 0 = 0 }) c.loop-literal-test.true;
      different = c.if-first-literal.true;
      first_open = left.not_false;
      second_open = ap (at c.args.values.now) (sym c.opposite.ensures) ∙ (sym c.is_marked-in-loop-literal.ensures ∙ c.if-not-is_marked.true);
    })

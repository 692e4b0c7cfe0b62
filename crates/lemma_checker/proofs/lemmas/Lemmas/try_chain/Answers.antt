use Rattle.std.proofs.Common.{inl, inr}
use Rattle.lemma_checker.proofs.ChainLemmas.{all_below, over_join, over_push, chain_over, derived_push, grown}
use Rattle.lemma_checker.proofs.lemmas.Lemmas.try_chain.Goals as goal

pub derive-requires-clause-below : goal.derive-requires-clause-below
derive-requires-clause-below c = all_below _ _ _ c.args.self.now.formula.over c.args.self.now.over

pub invariant_of-self-2 : goal.invariant_of-self-2
invariant_of-self-2 c =
    let given = rw (← c.as_slice.ensures.value) at c.in_ok-derive.ensures.set in
    elim (grown _ _ _ _ _ _ _ c.append.ensures.added c.append.ensures.chains c.append.ensures.err) [
      | inl same ↦ record {
        over = rw same.0 c.args.self.now.over;
        derived = rw (same.0, same.1) c.args.self.now.derived;
        lists = c.derive.ensures.lists;
        room = c.derive.ensures.room;
      }
      | inr more ↦ record {
        over = rw more.0 (over_push _ _ _ c.args.self.now.over (chain_over _ _ _ _ _ (over_join _ _ _ c.args.self.now.formula.over c.args.self.now.over) given));
        derived = rw (more.0, more.1) (derived_push _ _ _ _ _ c.args.self.now.derived given);
        lists = c.derive.ensures.lists;
        room = c.derive.ensures.room;
      }
    ]

use Rattle.std.proofs.Common.{◌≡◌, ◌∙◌, ap, sym, subst, length, arith, ℕ, replicate, false, rules}
use Rattle.std.proofs.lemmas.List.{length-replicate}
use Rattle.std.proofs.lemmas.Option.{slice_get_within}
use Rattle.flat_design.specs.declared.item.FlatItem.{FlatItem}
use Rattle.flat_design.specs.Systems.{targets_of}
use Rattle.flat_raw.specs.Assigned.{item_nets, AreTargets}
use Rattle.flat_raw.proofs.Rows.{here, one_more}
use Rattle.flat_raw.proofs.raw.have_targets.Goals as goal

pub loop-item-preserved : goal.loop-item-preserved
loop-item-preserved c =
    let bound : length c.loop-item.set ≡ c.args.bound = ap length c.loop-item.invariant.empty ∙ length-replicate c.args.bound false in
    record {
      empty = c.in_ok-item_has_targets.ensures.empty ∙ c.loop-item.invariant.empty;
      targets =
          one_more (λ k (x : FlatItem). AreTargets c.args.bound (targets_of x) (item_nets x)) c.args.items.now c.loop-item.item-index c.item-item.result (here c.args.items.now c.loop-item.item-index c.item-item.result c.loop-item-test.true c.item-item.is)
          c.loop-item.invariant.targets (subst (λ n. AreTargets n (targets_of c.item-item.result) (item_nets c.item-item.result)) bound (c.in_ok-item_has_targets.ensures.targets.0 c.if-not-branch.false));
    }

pub returns : goal.returns
returns c = (λ h k x at. let within = slice_get_within c.args.items.now k x at in c.loop-item.invariant.targets k x (omega arith) at, λ h. search rules)

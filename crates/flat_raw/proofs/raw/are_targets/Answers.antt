use Rattle.std.proofs.Common.{◌≡◌, ◌∙◌, ap, length}
use Rattle.flat_raw.proofs.Targets.{targets_are, StandIn}
use Rattle.std.specs.List.{list_all}
use Rattle.std.specs.Prelude.{nat_lt}
use Rattle.flat_raw.proofs.raw.are_targets.Goals as goal

pub returns-clause-targets : goal.returns-clause-targets
returns-clause-targets c =
    targets_are (length c.args.set.now) c.args.targets.now c.args.nets.now c.are_below-inside.result c.is_rising-rising.result c.in_ok-there.there c.in_ok-back.back c.all_of.result
    (c.are_below-inside.ensures ∙ ap (λ b. list_all (λ n. nat_lt n b) c.args.nets.now) c.bound.ensures) c.is_rising-rising.ensures c.in_ok-there.ensures.all
    (c.in_ok-back.ensures.all ∙ ap (λ s. StandIn (length s) c.args.nets.now c.args.targets.now) c.in_ok-there.ensures.empty) c.all_of.ensures

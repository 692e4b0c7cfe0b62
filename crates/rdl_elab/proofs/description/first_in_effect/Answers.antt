use Rattle.rdl_effects.specs.Refusals.{IsConflict}
use Rattle.rdl_elab.proofs.Firsts.{called}
use Rattle.rdl_elab.proofs.description.first_in_effect.Goals as goal

pub returns : goal.returns
returns c = called (IsConflict c.args.effect c.args.file.now) _ (λ p e. (c.in_ok-found.ensures.first p e).here) (λ p q e h. (c.in_ok-found.ensures.first p e).first q h) c.in_ok-found.ensures.none

use Rattle.rdl_text.specs.Refusals.{IsFault}
use Rattle.rdl_elab.proofs.Firsts.{called}
use Rattle.rdl_elab.proofs.description.first_in_text.Goals as goal

pub returns : goal.returns
returns c = called (IsFault c.args.check c.args.file.now) _ (λ p e. (c.in_ok-found.ensures.first p e).here) (λ p q e h. (c.in_ok-found.ensures.first p e).first q h) c.in_ok-found.ensures.none

use Rattle.rdl_words.specs.Words.{spots_of}
use Rattle.rdl_words.specs.Clashes.{IsClash}
use Rattle.rdl_elab.proofs.Firsts.{called}
use Rattle.rdl_elab.proofs.description.first_shared.Goals as goal

pub returns : goal.returns
returns c = called (IsClash (spots_of c.args.registers.now)) _ (λ p e. (c.in_ok-found.ensures.first p e).is) (λ p q e h. (c.in_ok-found.ensures.first p e).first q h) c.in_ok-found.ensures.none

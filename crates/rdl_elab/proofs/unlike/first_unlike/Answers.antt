use Rattle.rdl_elab.proofs.UnlikeFirsts.{first_others, no_registers}
use Rattle.rdl_elab.proofs.unlike.first_unlike.Goals as goal

pub returns-in-None : goal.returns-in-None
returns-in-None c = no_registers c.args.registers.now c.in-None.ensures.none

pub returns-in_ok-places-in-Some : goal.returns-in_ok-places-in-Some
returns-in_ok-places-in-Some c =
    first_others c.in-Some.first c.args.registers.now _ _ _ c.in-Some.ensures.some c.as_slice.ensures.value c.in_ok-places-in-Some.ensures c.first_of.ensures.first c.first_of.ensures.none

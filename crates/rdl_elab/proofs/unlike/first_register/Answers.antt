use Rattle.std.proofs.lemmas.Option.{slice_get-get_or}
use Rattle.std.proofs.Common.{sym}
use Rattle.rdl_elab.proofs.Earliest.{starts, goes_on, ends}
use Rattle.rdl_elab.proofs.unlike.first_register.Goals as goal

pub loop-register-init : goal.loop-register-init
loop-register-init c = starts _ 0 _ (sym c.in_ok-found.ensures.value)

pub loop-register-preserved : goal.loop-register-preserved
loop-register-preserved c =
    rw c.earlier_register-found.ensures (goes_on _ _ _ _ (slice_get-get_or _ _ _ c.loop-register-test.true) c.loop-register.invariant)

pub returns-clause-some : goal.returns-clause-some
returns-clause-some c = ends _ _ _ c.loop-register-test.false c.loop-register.invariant

use Rattle.std.proofs.Common.{◌∙◌, sym, subst, ap, length}
use Rattle.flat_latched.proofs.Firsts.{AreNets, no_latch, no_some}
use Rattle.flat_latched.proofs.latched.latch_offence.Goals as goal

pub returns-in_default-clause-none : goal.returns-in_default-clause-none
returns-in_default-clause-none c =
    let same = c.as_slice-2.ensures.value in
    no_latch c.args.nets.now c.args.items.now c.as_slice-2.result.now (ap length same ∙ c.in_ok-found.ensures.long) (subst (AreNets c.args.nets.now c.args.items.now) (sym same) c.in_ok-found.ensures.each)
    (no_some c.first_offence.result _ c.in_default.not-Some c.first_offence.ensures.none)

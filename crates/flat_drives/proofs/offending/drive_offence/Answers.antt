use Rattle.std.proofs.Common.{◌≡◌, ◌∙◌, sym, subst, ap, List, ℕ, length}
use Rattle.flat_offences.specs.Owners.{AreOwners}
use Rattle.flat_drives.proofs.Whole.{AreLeast, answer_first, answer_none}
use Rattle.flat_drives.proofs.offending.drive_offence.Goals as goal

pub returns-clause-first : goal.returns-clause-first
returns-clause-first c =
    let same = c.as_slice-2.ensures.value in
    answer_first c.args.nets.now c.args.items.now c.as_slice.result.now c.as_slice-2.result.now c.first_offence.result (subst (AreOwners c.args.nets.now) (sym c.as_slice.ensures.value) c.in_ok-owners.ensures) (ap length same ∙ c.in_ok-found.ensures.long)
    (subst (AreLeast c.args.nets.now c.args.items.now c.as_slice.result.now) (sym same) c.in_ok-found.ensures.each) c.first_offence.ensures.first

pub returns-clause-none : goal.returns-clause-none
returns-clause-none c =
    let same = c.as_slice-2.ensures.value in
    answer_none c.args.nets.now c.args.items.now c.as_slice.result.now c.as_slice-2.result.now c.first_offence.result (subst (AreOwners c.args.nets.now) (sym c.as_slice.ensures.value) c.in_ok-owners.ensures) (ap length same ∙ c.in_ok-found.ensures.long)
    (subst (AreLeast c.args.nets.now c.args.items.now c.as_slice.result.now) (sym same) c.in_ok-found.ensures.each) c.first_offence.ensures.none

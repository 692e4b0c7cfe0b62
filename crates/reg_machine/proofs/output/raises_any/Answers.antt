use Rattle.std.proofs.Common.{◌∙◌, ap, sym, slice_get}
use Rattle.field_policies.specs.Fields.{members_of}
use Rattle.reg_machine.proofs.output.raises_any.Goals as goal

pub raises_one_of-requires-clause-members : goal.raises_one_of-requires-clause-members
raises_one_of-requires-clause-members c = λ i k at. c.requires.field.members i k (ap (λ xs. slice_get xs i) (ap members_of c.in-Intr.is ∙ sym c.as_slice.ensures.value) ∙ at)

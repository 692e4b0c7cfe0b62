use Rattle.std.proofs.Common.{ap, ◌∙◌}
use Rattle.rdl_elab.specs.Refusals.{is_large}
use Rattle.rdl_elab.proofs.Sizes.{many_sized, few_sized}
use Rattle.rdl_elab.proofs.description.first_size.Goals as goal

pub returns-in-None : goal.returns-in-None
returns-in-None c = rw c.whole_if.ensures (many_sized c.args.file.now (rw c.in-None.is at c.requires))

pub returns-in_ok-large-in-Some : goal.returns-in_ok-large-in-Some
returns-in_ok-large-in-Some c =
    let known = rw c.in-Some.is at c.requires in
    rw c.whole_if-in-Some.ensures (few_sized c.args.file.now c.in_ok-large-in-Some.large known.few (c.in_ok-large-in-Some.ensures ∙ ap is_large (c.as_slice.ensures.value ∙ known.registers)))

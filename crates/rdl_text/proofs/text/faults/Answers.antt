use Rattle.std.proofs.Common.{ap, ◌∙◌}
use Rattle.rdl_text.specs.Refusals.{lacks_top}
use Rattle.rdl_text.proofs.Faults.{all_faults}
use Rattle.rdl_text.proofs.text.faults.Goals as goal

pub returns : goal.returns
returns c = all_faults c.args.check c.args.file.now _ _ _ _ _ c.as_slice.ensures c.new-out.ensures.items (c.lacks_top.ensures ∙ ap (lacks_top c.args.check) c.as_slice-2.ensures) c.in_ok-note_if.ensures c.in_ok-note_body.ensures

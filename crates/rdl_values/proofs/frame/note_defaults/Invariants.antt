use Rattle.std.proofs.Common.{◌≡◌, ◌++◌, drop}
use Rattle.rdl_text.specs.Chains.{nows}
use Rattle.rdl_values.specs.Frames.{defaults_in}
use Rattle.rdl_values.proofs.frame.note_defaults.Given as goal

abbrev pub invariant-loop-item : goal.invariant-loop-item
invariant-loop-item l = nows l.out.items ++ defaults_in (drop l.item-index l.items) ≡ nows l.fn.out.items ++ defaults_in l.items

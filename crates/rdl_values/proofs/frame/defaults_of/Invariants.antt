use Rattle.std.proofs.Common.{◌≡◌, ◌++◌, drop}
use Rattle.rdl_text.specs.Chains.{nows}
use Rattle.rdl_values.specs.Frames.{defaults_of}
use Rattle.rdl_values.proofs.frame.defaults_of.Given as goal

abbrev pub invariant-loop-at : goal.invariant-loop-at
invariant-loop-at l = nows l.out.items ++ defaults_of (nows (drop l.at l.chain)) ≡ defaults_of (nows l.chain)

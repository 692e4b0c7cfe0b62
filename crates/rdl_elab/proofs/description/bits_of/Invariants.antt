use Rattle.std.proofs.Common.{◌≡◌, ◌+◌, ◌≤◌, min, drop}
use Rattle.rdl_elab.specs.Refusals.{bits_in}
use Rattle.rdl_elab.proofs.description.bits_of.Given as goal

abbrev pub invariant-loop-register : goal.invariant-loop-register
invariant-loop-register l = record {
  same : min (l.so_far + bits_in (drop l.register-index l.registers)) 4097 ≡ min (bits_in l.registers) 4097;
  bound : l.so_far ≤ 4097;
}

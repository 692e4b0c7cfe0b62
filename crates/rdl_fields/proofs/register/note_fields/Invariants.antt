use Rattle.std.proofs.Common.{◌≡◌, ◌++◌, ◌≤◌, drop}
use Rattle.rdl_fields.specs.Registers.{fields_in}
use Rattle.rdl_fields.proofs.register.note_fields.Given as goal

abbrev pub invariant-loop-instance : goal.invariant-loop-instance
invariant-loop-instance l = record {
  same : l.out.items ++ fields_in l.register l.access l.trail l.targets l.next (drop l.instance-index l.instances)
      ≡ l.fn.out.items ++ fields_in l.register l.access l.trail l.targets 0 l.instances;
  next : l.next ≤ 129;
}

use Rattle.std.proofs.Common.{◌≡◌, drop}
use Rattle.rdl_text.specs.Instances.{next_inst}
use Rattle.rdl_text.proofs.instance.next_inst.Given as goal

abbrev pub invariant-loop-next : goal.invariant-loop-next
invariant-loop-next l = next_inst l.name (drop l.next-index l.insts) ≡ next_inst l.name l.insts

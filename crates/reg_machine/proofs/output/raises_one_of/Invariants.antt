use Rattle.std.proofs.Common.{◌≡◌, take}
use Rattle.std.specs.List.{list_any}
use Rattle.reg_machine.specs.Conditions.{view_of}
use Rattle.reg_machine.specs.Machines.{raises}
use Rattle.reg_machine.proofs.output.raises_one_of.Given as goal

abbrev pub invariant-loop-member : goal.invariant-loop-member
invariant-loop-member l = l.raised ≡ list_any (raises (view_of l.map l.values l.hw)) (take l.member-index l.members)

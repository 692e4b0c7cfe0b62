use Rattle.std.proofs.Common.{◌∙◌, ap}
use Rattle.std.specs.List.{list_any}
use Rattle.std.proofs.lemmas.List.{take_all}
use Rattle.reg_machine.specs.Conditions.{view_of}
use Rattle.reg_machine.specs.Machines.{raises}
use Rattle.reg_machine.proofs.output.raises_one_of.Goals as goal

pub returns : goal.returns
returns c = c.loop-member.invariant ∙ ap (list_any (raises (view_of c.args.map.now c.args.values.now c.args.hw.now))) (take_all c.loop-member.member-index c.args.members.now c.loop-member-test.false)

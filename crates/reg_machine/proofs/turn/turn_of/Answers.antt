use Rattle.reg_machine.specs.Steps.{is_software_active, software_gives, hardware_gives}
use Rattle.reg_machine.proofs.turn.turn_of.Goals as goal

pub returns : goal.returns
unfolding is_software_active software_gives hardware_gives
returns c = record {
  written = c.is_written-written.ensures;
  software = cc (c.is_read-read.ensures c.args.values.now c.args.hw.now);
  hardware = c.hardware_side-hardware.ensures.active;
  bits = c.hardware_side-hardware.ensures.bits;
  by_software = cc (c.is_read-read.ensures c.args.values.now c.args.hw.now);
  by_hardware = cc (c.is_read-read.ensures c.args.values.now c.args.hw.now);
}

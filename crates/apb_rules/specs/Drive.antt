-- What a master drives that follows the protocol and is free to choose the rest.
use Rattle.std.specs.Prelude.{ℕ, ◌-◌, ◌%◌, true, false, if◌then◌else◌}
use Rattle.apb_rules.specs.declared.style.BusStyle.{BusStyle}
use Rattle.apb_rules.specs.declared.wires.BusWires.{BusWires}
use Rattle.apb_rules.specs.declared.wires.Choice.{Choice}
use Rattle.apb_rules.specs.declared.phase.Held.{Held}
use Rattle.apb_rules.specs.declared.phase.Phase.{Phase}
use Rattle.apb_rules.specs.declared.phase.Phase.TheVariants.{Free, Access}
use Rattle.apb_rules.specs.Lines.{strobe_line, prot_line}

module _ (style : BusStyle) (bytes : ℕ) where
  -- no transfer: PSEL is 0 and the other wires are as chosen
  abbrev pub idle : Choice → BusWires
  idle choice = record {
    select = false;
    enable = choice.enable;
    write = choice.write;
    address = choice.address;
    payload = choice.payload;
    strobe = strobe_line style bytes choice.strobe;
    prot = prot_line style choice.prot;
  }

  -- the setup phase of a transfer at the chosen address, cut to a multiple of the bus bytes; a read
  -- has no strobe
  abbrev pub setup : Choice → BusWires
  setup choice = record {
    select = true;
    enable = false;
    write = choice.write;
    address = choice.address - choice.address % bytes;
    payload = choice.payload;
    strobe = strobe_line style bytes (if choice.write then choice.strobe else 0);
    prot = prot_line style choice.prot;
  }

  -- the access phase: the wires of the setup phase once more, but in a read the data is as chosen
  abbrev pub access : Held → Choice → BusWires
  access held choice = record {
    select = true;
    enable = true;
    write = held.write;
    address = held.address;
    payload = if held.write then held.payload else choice.payload;
    strobe = strobe_line style bytes held.strobe;
    prot = prot_line style held.prot;
  }

  -- what the master drives in each phase
  abbrev pub driven : Phase → Choice → BusWires
  driven Free choice = if choice.start then setup choice else idle choice
  driven (Access held) choice = access held choice

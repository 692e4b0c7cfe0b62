-- Which wires a master may drive at one edge, in the phase before it (AMBA APB, operating states,
-- write strobes, protection unit support).
use Rattle.std.specs.Prelude.{◌≡◌, ℕ, ◌%◌, ◌^◌, ◌<◌, ◌⊎◌, true, false}
use Rattle.apb_rules.specs.declared.style.BusStyle.{BusStyle}
use Rattle.apb_rules.specs.declared.wires.BusWires.{BusWires}
use Rattle.apb_rules.specs.declared.phase.Held.{Held}
use Rattle.apb_rules.specs.declared.phase.Phase.{Phase}
use Rattle.apb_rules.specs.declared.phase.Phase.TheVariants.{Free, Access}
use Rattle.apb_rules.specs.Lines.{all_bytes, strobe_line, prot_line}

module _ (style : BusStyle) (bytes : ℕ) where
  -- PSTRB has a line for each byte, and counts as all ones where it isn't there; PPROT has three,
  -- and counts as 0
  pub record FitsLines (wires : BusWires) : Type 0 where
    pub strobe_fits : wires.strobe < 2 ^ bytes
    pub prot_fits : wires.prot < 8
    pub no_strobe : style.strobe ≡ false → wires.strobe ≡ all_bytes bytes
    pub no_prot : style.prot ≡ false → wires.prot ≡ 0

  -- no transfer: PSEL is 0, and the other wires are free, since other blocks share them
  pub record IsIdle (wires : BusWires) : Type 0 where
    pub not_selected : wires.select ≡ false
    pub lines : FitsLines wires

  -- the setup phase of a transfer, which is one edge long: an address that is a multiple of the
  -- bus bytes, and no strobe in a read
  pub record IsSetup (wires : BusWires) : Type 0 where
    pub selected : wires.select ≡ true
    pub not_enabled : wires.enable ≡ false
    pub aligned : wires.address % bytes ≡ 0
    pub no_strobe_in_read : style.strobe ≡ true → wires.write ≡ false → wires.strobe ≡ 0
    pub lines : FitsLines wires

  -- an edge of the access phase of the transfer whose setup edge drove `held`: all stays as it
  -- was, but the data in a read
  pub record IsAccess (held : Held) (wires : BusWires) : Type 0 where
    pub selected : wires.select ≡ true
    pub enabled : wires.enable ≡ true
    pub same_write : wires.write ≡ held.write
    pub same_address : wires.address ≡ held.address
    pub same_data : held.write ≡ true → wires.payload ≡ held.payload
    pub same_strobe : wires.strobe ≡ strobe_line style bytes held.strobe
    pub same_prot : wires.prot ≡ prot_line style held.prot

  -- the wires that are legal in each phase
  abbrev pub IsLegalIn : Phase → BusWires → Type 0
  IsLegalIn Free wires = IsIdle wires ⊎ IsSetup wires
  IsLegalIn (Access held) wires = IsAccess held wires

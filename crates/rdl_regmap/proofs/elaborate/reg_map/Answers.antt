use Rattle.rdl_regmap.proofs.elaborate.reg_map.Goals as goal

pub invariant_of-result : goal.invariant_of-result
invariant_of-result c = record {
  bus = c.requires.bus;
  in_words = c.requires.in_words;
  fits = c.requires.fits;
  in_range = c.requires.in_range;
  distinct = c.requires.distinct;
  paths = ∣ c.requires.paths ∣₁;
  widths = c.requires.widths;
  wires = c.requires.wires;
  counters = c.requires.counters;
  interrupts = c.requires.interrupts;
  members = c.requires.members;
  small = c.requires.small;
}

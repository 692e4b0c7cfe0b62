use Rattle.std.proofs.Common.{◌∙◌, ap, false, length}
use Rattle.std.proofs.lemmas.List.{length-replicate}
use Rattle.flat_design.specs.Bits.{bits_in}
use Rattle.flat_loads.proofs.Gathered.{has_both, counted}
use Rattle.flat_loads.proofs.drives.if_bits.Goals as goal

pub returns-clause-bits : goal.returns-clause-bits
returns-clause-bits c =
    c.len-bits.ensures
    ∙ counted (bits_in c.args.nets.now) _ c.args.set.now c.add_other.new.set c.requires (ap length c.requires ∙ length-replicate (bits_in c.args.nets.now) false) (c.in_ok-add_other.ensures.long ∙ c.in_ok-add_stmt.ensures.long)
    (has_both c.args.set.now c.add_stmt.new.set c.add_other.new.set _ _ c.in_ok-add_stmt.ensures.long c.in_ok-add_stmt.ensures.has c.in_ok-add_other.ensures.has)

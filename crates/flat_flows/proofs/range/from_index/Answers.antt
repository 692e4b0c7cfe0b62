use Rattle.std.proofs.Common.{◌∙◌, ◌^◌, sym, ap, map, not, length, min}
use Rattle.bit_base.specs.Numbers.{number_of}
use Rattle.flat_design.specs.Bits.{selected, Offset}
use Rattle.flat_flows.proofs.Places.{complement, offset_before}
use Rattle.flat_flows.proofs.range.from_index.Goals as goal

pub returns-then-sign_of : goal.returns-then-sign_of
returns-then-sign_of c i =
    c.from_before.ensures (number_of c.args.index.now) (number_of (map not c.args.index.now)) (2 ^ length c.args.index.now) (c.number_at_most-below.ensures ∙ ap (λ l. min (number_of l) 1099511627776) (c.as_slice.ensures ∙ c.in_ok-other.ensures.value)) (complement c.args.index.now) i
    ∙ ap (λ (o : Offset). selected c.args.net.now o c.args.width i) (sym (offset_before c.args.signed c.args.index.now c.args.net.now.lsb c.if-signed.true (sym c.sign_of.ensures ∙ c.if-sign_of.true)))

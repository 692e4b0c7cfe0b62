use Rattle.std.proofs.Common.{◌≡◌, ◌++◌, ◌∙◌, ◌^◌, sym, ap, map, not, length, min, subst}
use Rattle.bit_base.specs.Numbers.{number_of}
use Rattle.flat_design.specs.Bits.{Offset}
use Rattle.flat_flows.proofs.Places.{complement, offset_before}
use Rattle.flat_words.specs.Starts.{AreAlike}
use Rattle.flat_words.proofs.start.start_at.Goals as goal

pub returns-then-sign_of : goal.returns-then-sign_of
returns-then-sign_of c =
    let inverted : c.push_not.new.row.items ≡ map not c.args.index.now = c.in_ok-push_not.ensures ∙ ap (λ xs. xs ++ map not c.args.index.now) c.clear.ensures.items in
    let below : c.number_at_most-below.result ≡ min (number_of (map not c.args.index.now)) 1099511627776 = c.number_at_most-below.ensures ∙ ap (λ l. min (number_of l) 1099511627776) (c.as_slice.ensures.value ∙ inverted) in
    subst (λ (o : Offset). AreAlike c.args.net.now o (c.from_before.result.plus, c.from_before.result.minus)) (sym (offset_before c.args.signed c.args.index.now c.args.net.now.lsb c.if-signed.true (sym c.sign_of.ensures ∙ c.if-sign_of.true)))
    (c.from_before.ensures (number_of c.args.index.now) (number_of (map not c.args.index.now)) (2 ^ length c.args.index.now) below (complement c.args.index.now))

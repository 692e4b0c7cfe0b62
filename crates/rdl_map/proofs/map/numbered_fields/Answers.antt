use Rattle.std.proofs.Common.{arith, drop_of_length-le}
use Rattle.rdl_map.proofs.Numbered.{all_told}
use Rattle.rdl_map.proofs.map.numbered_fields.Goals as goal

pub returns-clause-fields : goal.returns-clause-fields
returns-clause-fields c =
    all_told c.args.words.now c.args.fields.now c.loop-at.at c.loop-at.base c.loop-at.out.items
    (drop_of_length-le c.args.fields.now (omega (arith, c.loop-at-test.false))) c.loop-at.invariant.so_far

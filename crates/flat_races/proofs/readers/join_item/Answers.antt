use Rattle.std.proofs.Common.{◌∙◌, ap}
use Rattle.std.specs.Prelude.{if◌then◌else◌}
use Rattle.flat_orders.specs.Orders.{among}
use Rattle.flat_races.specs.Readers.{joined_by, readers_of}
use Rattle.flat_races.proofs.Counts.{more_readers}
use Rattle.flat_races.proofs.readers.join_item.Goals as goal

pub returns : goal.returns
returns c items at h =
    more_readers c.args.nets.now items c.args.owners.now c.members.result.now c.args.number c.args.item.now c.args.table.now.items c.join_all.new.table.items c.requires.owners at (λ i. c.members.ensures i ∙ c.in_ok-fill.ensures.reads i)
    (λ n. c.in_ok-join_all.ensures n
    ∙ ap (λ l. if among n l then joined_by c.args.number (readers_of c.args.table.now.items n) else readers_of c.args.table.now.items n) (c.as_slice.ensures.value ∙ c.in_ok-read.ensures))
    h

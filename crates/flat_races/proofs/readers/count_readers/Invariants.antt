use Rattle.flat_races.specs.Readers.{AreReaders}
use Rattle.flat_races.proofs.readers.count_readers.Given as goal

abbrev pub invariant-loop-number : goal.invariant-loop-number
invariant-loop-number l = AreReaders l.nets l.items l.number l.table.items

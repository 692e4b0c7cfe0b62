use Rattle.std.proofs.Common.{arith, get_or}
use Rattle.std.proofs.lemmas.Option.{slice_get-get_or}
use Rattle.watch_lists.proofs.BuildLemmas.{pair_of}
use Rattle.watch_lists.proofs.build.first_two.Goals as goal

pub returns-in-len2-up : goal.returns-in-len2-up
returns-in-len2-up c = λ long distinct. pair_of c.args.clause.now (get_or c.args.clause.now 0 (record { 0 = 0 })) (get_or c.args.clause.now 1 (record { 0 = 0 })) distinct (slice_get-get_or c.args.clause.now 0 (record { 0 = 0 }) (omega arith)) (slice_get-get_or c.args.clause.now 1 (record { 0 = 0 }) (omega arith))

use Rattle.std.proofs.Common.{◌<◌, ◌≤◌, [], length, get_or, map, refl, arith}
use Rattle.std.specs.Prelude.{vec_items}
use Rattle.std.proofs.lemmas.List.{length-map}
use Rattle.vlog_prep.specs.Prepared.{most_bytes}
use Rattle.vlog_prep.proofs.Files.{item-at, small-more, long-at}
use Rattle.vlog_prep.proofs.prepare.check_sizes.Goals as goal

pub returns-then-len-gt-MOST_BYTES-clause-long : goal.returns-then-len-gt-MOST_BYTES-clause-long
returns-then-len-gt-MOST_BYTES-clause-long c =
    let within : c.loop-number.number < length (map vec_items c.args.files.now) = omega (arith, length-map c.args.files.now vec_items) in
    let bytes = item-at vec_items c.args.files.now c.loop-number.number c.index-files-number.result c.loop-number-test.true c.index-files-number.is in
    let long : most_bytes < length (get_or (map vec_items c.args.files.now) c.loop-number.number []) = rw bytes (omega arith) in
    rw c.fault_at.ensures (long-at (map vec_items c.args.files.now) c.loop-number.number _ within c.loop-number.invariant long refl)

pub loop-number-preserved : goal.loop-number-preserved
loop-number-preserved c =
    let bytes = item-at vec_items c.args.files.now c.loop-number.number c.index-files-number.result c.loop-number-test.true c.index-files-number.is in
    let short : length (get_or (map vec_items c.args.files.now) c.loop-number.number []) ≤ most_bytes = rw bytes (omega arith) in
    small-more (map vec_items c.args.files.now) c.loop-number.number c.loop-number.invariant short

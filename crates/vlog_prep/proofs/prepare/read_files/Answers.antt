use Rattle.std.proofs.Common.{◌≡◌, ◌<◌, [], length, get_or, map, sym, ◌∙◌, arith}
use Rattle.std.specs.Prelude.{vec_items}
use Rattle.std.proofs.lemmas.List.{length-map}
use Rattle.vlog_prep.specs.Pieces.{none}
use Rattle.vlog_prep.proofs.Files.{item-at, read-more, bad-at}
use Rattle.vlog_prep.proofs.prepare.read_files.Goals as goal

pub loop-number-init : goal.loop-number-init
loop-number-init c = rw c.new-pieces.ensures none

pub read_file-requires : goal.read_file-requires
read_file-requires c =
    let bytes : c.as_slice.result.now ≡ get_or (map vec_items c.args.files.now) c.loop-number.number [] =
    c.as_slice.ensures.value ∙ sym (item-at vec_items c.args.files.now c.loop-number.number c.index-files-number.result c.loop-number-test.true c.index-files-number.is) in
    rw bytes (c.requires.small c.loop-number.number)

pub returns-in-Err-clause-bad : goal.returns-in-Err-clause-bad
returns-in-Err-clause-bad c =
    let within : c.loop-number.number < length (map vec_items c.args.files.now) = omega (arith, length-map c.args.files.now vec_items) in
    let bytes : c.as_slice.result.now ≡ get_or (map vec_items c.args.files.now) c.loop-number.number [] =
    c.as_slice.ensures.value ∙ sym (item-at vec_items c.args.files.now c.loop-number.number c.index-files-number.result c.loop-number-test.true c.index-files-number.is) in
    bad-at (map vec_items c.args.files.now) c.loop-number.number c.loop-number.pieces c.in-Err.fault c.requires.small within c.loop-number.invariant (rw bytes at c.in-Err.ensures.refused)

pub loop-number-preserved : goal.loop-number-preserved
loop-number-preserved c =
    let within : c.loop-number.number < length (map vec_items c.args.files.now) = omega (arith, length-map c.args.files.now vec_items) in
    let bytes : c.as_slice.result.now ≡ get_or (map vec_items c.args.files.now) c.loop-number.number [] =
    c.as_slice.ensures.value ∙ sym (item-at vec_items c.args.files.now c.loop-number.number c.index-files-number.result c.loop-number-test.true c.index-files-number.is) in
    read-more (map vec_items c.args.files.now) c.loop-number.number c.loop-number.pieces c.read_file.new.pieces within c.loop-number.invariant (rw bytes at c.in-Ok.ensures.read)

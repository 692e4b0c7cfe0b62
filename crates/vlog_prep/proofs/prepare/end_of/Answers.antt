use Rattle.std.proofs.Common.{◌-◌, ◌<◌, ◌≤◌, length, map, sym, ◌∙◌, ap, arith}
use Rattle.std.specs.Prelude.{vec_items}
use Rattle.std.proofs.lemmas.List.{length-map}
use Rattle.vlog_prep.specs.Prepared.{most_bytes}
use Rattle.vlog_prep.proofs.Files.{item-at, end-some, end-none}
use Rattle.vlog_prep.proofs.prepare.end_of.Goals as goal

pub returns-then-count-eq0 : goal.returns-then-count-eq0
returns-then-count-eq0 c = end-none (map vec_items c.args.files.now) (length-map c.args.files.now vec_items ∙ c.if-count-eq0.true)

pub moved-requires-clause-line : goal.moved-requires-clause-line
moved-requires-clause-line c =
    let within : length c.args.files.now - 1 < length c.args.files.now = omega arith in
    let bytes = item-at vec_items c.args.files.now (length c.args.files.now - 1) c.index-files-last.result within c.index-files-last.is in
    let short : length c.as_slice.result.now ≤ most_bytes = rw (c.as_slice.ensures.value ∙ sym bytes) (c.requires.small (length c.args.files.now - 1)) in
    omega arith

pub moved-requires-clause-column : goal.moved-requires-clause-column
moved-requires-clause-column c =
    let within : length c.args.files.now - 1 < length c.args.files.now = omega arith in
    let bytes = item-at vec_items c.args.files.now (length c.args.files.now - 1) c.index-files-last.result within c.index-files-last.is in
    let short : length c.as_slice.result.now ≤ most_bytes = rw (c.as_slice.ensures.value ∙ sym bytes) (c.requires.small (length c.args.files.now - 1)) in
    omega arith

pub returns : goal.returns
returns c =
    let within : length c.args.files.now - 1 < length c.args.files.now = omega arith in
    let bytes = item-at vec_items c.args.files.now (length c.args.files.now - 1) c.index-files-last.result within c.index-files-last.is in
    c.moved.ensures
    ∙ end-some (map vec_items c.args.files.now) (length c.args.files.now - 1) c.as_slice.result.now (ap (λ k. k - 1) (sym (length-map c.args.files.now vec_items))) (bytes ∙ sym c.as_slice.ensures.value)

use Rattle.std.proofs.Common.{◌<◌, length, Some, sym, ◌∙◌, arith}
use Rattle.std.specs.Prelude.{None, option_to_list}
use Rattle.vlog_prep.proofs.Scanning.{found_at, longest_at, some_left, none_left, stands-spelled, scanned-start, scanned-line, scanned-column, scanned-next, scanned-none, scanned-stray, scanned-end}
use Rattle.vlog_prep.proofs.scan.read_file.Goals as goal

pub loop-rest-init : goal.loop-rest-init
loop-rest-init c = scanned-start c.args.file c.args.bytes.now c.args.pieces.now c.requires

pub returns-in_default-clause-refused : goal.returns-in_default-clause-refused
returns-in_default-clause-refused c =
    rw c.fault_at.ensures
    (scanned-none c.args.file c.args.bytes.now c.args.pieces.now c.loop-rest.pieces c.loop-rest.rest.now c.loop-rest.place c.loop-rest.line c.loop-rest.invariant
    (some_left c.loop-rest.rest.now (sym c.is_empty.ensures ∙ c.loop-rest-test.true))
    (found_at c.loop-rest.rest.now c.lexeme_at.result None c.lexeme_at.ensures c.in_default.is))

pub returns-then-strays-clause-refused : goal.returns-then-strays-clause-refused
returns-then-strays-clause-refused c =
    let found = found_at c.loop-rest.rest.now c.lexeme_at.result (Some (c.in-Some.lexeme, c.in-Some.len)) c.lexeme_at.ensures c.in-Some.is in
    rw c.fault_at-then-strays.ensures
    (scanned-stray c.args.file c.args.bytes.now c.args.pieces.now c.loop-rest.pieces c.loop-rest.rest.now c.loop-rest.place c.loop-rest.line c.loop-rest.invariant
    c.in-Some.lexeme _ _ found.2 (sym c.strays.ensures ∙ c.if-strays.true))

pub split_at-requires : goal.split_at-requires
split_at-requires c = (found_at c.loop-rest.rest.now c.lexeme_at.result (Some (c.in-Some.lexeme, c.in-Some.len)) c.lexeme_at.ensures c.in-Some.is).1

pub piece_of-requires : goal.piece_of-requires
piece_of-requires c =
    let found = found_at c.loop-rest.rest.now c.lexeme_at.result (Some (c.in-Some.lexeme, c.in-Some.len)) c.lexeme_at.ensures c.in-Some.is in
    rw c.split_at.ensures.front (stands-spelled c.loop-rest.rest.now c.in-Some.lexeme _ found.2.spelled)

pub moved-place-requires-clause-line : goal.moved-place-requires-clause-line
moved-place-requires-clause-line c =
    scanned-line c.args.file c.args.bytes.now c.args.pieces.now c.loop-rest.pieces c.loop-rest.rest.now c.loop-rest.place c.loop-rest.line c.loop-rest.invariant (length c.split_at.result.0.now)
    (omega (arith, c.split_at.ensures.front_len, c.split_at.ensures.back_len))

pub moved-place-requires-clause-column : goal.moved-place-requires-clause-column
moved-place-requires-clause-column c =
    scanned-column c.args.file c.args.bytes.now c.args.pieces.now c.loop-rest.pieces c.loop-rest.rest.now c.loop-rest.place c.loop-rest.line c.loop-rest.invariant (length c.split_at.result.0.now)
    (omega (arith, c.split_at.ensures.front_len, c.split_at.ensures.back_len))

pub loop-rest-smaller : goal.loop-rest-smaller
loop-rest-smaller c =
    let found = found_at c.loop-rest.rest.now c.lexeme_at.result (Some (c.in-Some.lexeme, c.in-Some.len)) c.lexeme_at.ensures c.in-Some.is in
    let shorter : length c.split_at.result.1.now < length c.loop-rest.rest.now = omega (arith, found.0, c.split_at.ensures.back_len) in
    shorter

pub loop-rest-preserved : goal.loop-rest-preserved
loop-rest-preserved c =
    let found = found_at c.loop-rest.rest.now c.lexeme_at.result (Some (c.in-Some.lexeme, c.in-Some.len)) c.lexeme_at.ensures c.in-Some.is in
    let longest = longest_at c.loop-rest.rest.now c.in-Some.lexeme c.in-Some.len c.split_at.result.0.now c.split_at.result.1.now found.2 c.split_at.ensures.front c.split_at.ensures.back in
    rw (c.in_ok-line.ensures.pushed, c.moved-place.ensures, c.in_ok-line.ensures.line)
    (scanned-next c.args.file c.args.bytes.now c.args.pieces.now c.loop-rest.pieces c.loop-rest.rest.now c.loop-rest.place c.loop-rest.line c.loop-rest.invariant
    c.in-Some.lexeme c.split_at.result.0.now c.split_at.result.1.now (option_to_list c.in_ok-piece.piece) longest (sym c.strays.ensures ∙ c.if-strays.false) c.in_ok-piece.ensures)

pub returns-clause-read : goal.returns-clause-read
returns-clause-read c =
    rw c.in_ok-push.ensures.ok
    (scanned-end c.args.file c.args.bytes.now c.args.pieces.now c.loop-rest.pieces c.loop-rest.place c.loop-rest.line
    (rw (none_left c.loop-rest.rest.now (sym c.is_empty.ensures ∙ c.loop-rest-test.false)) at c.loop-rest.invariant))

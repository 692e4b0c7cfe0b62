use Rattle.std.proofs.Common.{◌≡◌, [], ◌∷◌}
use Rattle.vlog_parse.specs.Top.{tops}
use Rattle.vlog_parse.proofs.Tops.{count_one_top}
use Rattle.vlog_parse.proofs.top.top_of.Goals as goal

pub returns-in_ok-copy-in-Ok-Some-clause-top : goal.returns-in_ok-copy-in-Ok-Some-clause-top
returns-in_ok-copy-in-Ok-Some-clause-top c =
    let one : tops c.args.file.now ≡ c.in-Ok-Some.top.now ∷ [] = rw c.in-Ok-Some.field-0-is at c.in-Ok-Some.ensures.one in
    record { top = c.in-Ok-Some.top.now; one = one; here = c.in_ok-copy-in-Ok-Some.ensures }

pub returns-in_ok-copy-in-Ok-Some-clause-no_other : goal.returns-in_ok-copy-in-Ok-Some-clause-no_other
returns-in_ok-copy-in-Ok-Some-clause-no_other c =
    let one : tops c.args.file.now ≡ c.in-Ok-Some.top.now ∷ [] = rw c.in-Ok-Some.field-0-is at c.in-Ok-Some.ensures.one in
    count_one_top c.args.file.now c.in-Ok-Some.top.now c.in_ok-copy-in-Ok-Some.field-0 one c.in_ok-copy-in-Ok-Some.ensures

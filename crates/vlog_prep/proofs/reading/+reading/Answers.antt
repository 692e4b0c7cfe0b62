use Rattle.std.proofs.Common.{◌≡◌, length, ◌∷◌, sym, ◌∙◌, ap, subst}
use Rattle.std.specs.Prelude.{Err}
use Rattle.std.proofs.lemmas.List.{nil_from_length}
use Rattle.vlog_prep.specs.Pieces.{command_of}
use Rattle.vlog_prep.specs.Reading.{Own, part_behind, read_by, expansion}
use Rattle.vlog_prep.specs.Behind.{behind}
use Rattle.vlog_prep.specs.Seen.{seen, Goes}
use Rattle.vlog_prep.proofs.Behind.{nothing-read, part-shorter, directive-goes, directive-err, token-goes, token-err, end-goes}
use Rattle.vlog_prep.proofs.reading.+reading.Goals as goal

pub directive-returns-in-Ok-clause-shorter : goal.directive-returns-in-Ok-clause-shorter
directive-returns-in-Ok-clause-shorter t c =
    rw (c.behind_command.ensures, c.command_of.ensures) (part-shorter (part_behind (command_of c.args.name.now)) c.args.behind.now)

pub directive-returns-in-Ok-clause-goes : goal.directive-returns-in-Ok-clause-goes
directive-returns-in-Ok-clause-goes t c = λ at here is.
    directive-goes c.args.levels at c.args.name.now here c.args.place c.args.behind.now c.behind_command.result.now (seen c.args.progress.now) (seen c.obey.new.progress) is c.in-Ok.ensures
    (c.behind_command.ensures ∙ ap (λ x. behind (part_behind x) c.args.behind.now) c.command_of.ensures)

pub directive-returns-in-Err-clause-goes : goal.directive-returns-in-Err-clause-goes
directive-returns-in-Err-clause-goes t c = λ at here is.
    directive-err c.args.levels at (Unit {0}) c.args.name.now here c.args.place c.args.behind.now (seen c.args.progress.now) (seen c.obey.new.progress) c.in-Err.fault is c.in-Err.ensures

pub step-returns-in-LineEnd-clause-goes : goal.step-returns-in-LineEnd-clause-goes
step-returns-in-LineEnd-clause-goes t c = rw c.in-LineEnd.is (end-goes c.args.levels c.args.at c.args.behind.now (seen c.args.progress.now))

pub step-returns-in-Ok-clause-goes : goal.step-returns-in-Ok-clause-goes
step-returns-in-Ok-clause-goes t c =
    rw c.in-Token.is
    (token-goes c.args.levels c.args.at c.in-Token.token c.in-Token.called c.place_at-place.result c.args.behind.now (seen c.args.progress.now) (seen c.keep.new.self) c.place_at-place.ensures c.in-Ok.ensures)

pub step-returns-in-Err-clause-goes : goal.step-returns-in-Err-clause-goes
step-returns-in-Err-clause-goes t c =
    subst (λ p. Goes c.args.levels c.args.at (p ∷ c.args.behind.now) (seen c.args.progress.now) (Err c.in-Err.fault) (seen c.keep.new.self)) (sym c.in-Token.is)
    (token-err c.args.levels c.args.at (Unit {0}) c.in-Token.token c.in-Token.called c.place_at-place.result c.args.behind.now (seen c.args.progress.now) (seen c.keep.new.self) c.in-Err.fault c.place_at-place.ensures c.in-Err.ensures)

pub read-returns : goal.read-returns
read-returns t c =
    let empty : length c.loop-piece.rest.now ≡ 0 = c.in_default.ensures.cases in
    c.loop-piece.invariant
    ∙ ap (λ w. read_by (expansion c.args.levels) c.args.at Own w (seen c.loop-piece.progress)) (nil_from_length c.loop-piece.rest.now empty)
    ∙ nothing-read (expansion c.args.levels) c.args.at (seen c.loop-piece.progress)

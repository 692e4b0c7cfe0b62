use Rattle.std.proofs.Common.{◌≡◌, ◌∙◌, sym, ap}
use Rattle.std.specs.Prelude.{slice_get, Some, None, false, bytes_eq, if◌then◌else◌}
use Rattle.flat_raw.specs.Nets.{is_hidden}
use Rattle.flat_raw.specs.Table.{found}
use Rattle.flat_raw.proofs.Rows.{here}
use Rattle.flat_raw.proofs.Seen.{hidden_seen, seen_twice, set_seen}
use Rattle.flat_raw.proofs.path.see.Goals as goal

pub returns-then-is_hidden-clause-seen : goal.returns-then-is_hidden-clause-seen
returns-then-is_hidden-clause-seen c =
    hidden_seen c.args.paths.now c.args.nets.now c.args.number c.index-nets-number.result (here c.args.nets.now c.args.number c.index-nets-number.result c.requires.number c.index-nets-number.is)
    (sym c.is_hidden.ensures ∙ c.if-is_hidden.true) c.requires.seen

pub returns-then-has-clause-twice : goal.returns-then-has-clause-twice
returns-then-has-clause-twice c own =
    seen_twice c.args.paths.now c.args.nets.now c.args.number c.if-has.ensures.some.0 c.index-nets-number.result (here c.args.nets.now c.args.number c.index-nets-number.result c.requires.number c.index-nets-number.is)
    (sym c.is_hidden.ensures ∙ c.if-is_hidden.false) c.requires.seen (ap (found c.args.paths.now) (sym c.as_bytes-path.ensures) ∙ c.if-has.ensures.some.1) own

pub returns-clause-seen : goal.returns-clause-seen
returns-clause-seen c =
    set_seen c.args.paths.now c.set.new.self c.args.nets.now c.args.number c.index-nets-number.result (here c.args.nets.now c.args.number c.index-nets-number.result c.requires.number c.index-nets-number.is)
    (sym c.is_hidden.ensures ∙ c.if-is_hidden.false) (ap (found c.args.paths.now) (sym c.as_bytes-path.ensures) ∙ c.if-has.ensures.none)
    (λ q. c.in_ok-set.ensures q ∙ ap (λ p. if bytes_eq p q then Some c.args.number else found c.args.paths.now q) c.as_bytes-path.ensures)
    c.requires.seen

use Rattle.std.proofs.Common.{sym, subst, arith, refl, length, ℕ, ◌+◌, ◌≡◌}
use Rattle.std.proofs.lemmas.Option.{slice_get_read, slice_get-get_or}
use Rattle.flat_offences.proofs.Firsts.{IsFirstBelow, first_step, first_done, none_done}
use Rattle.flat_offences.proofs.offence.first_offence.Goals as goal

pub loop-k-preserved : goal.loop-k-preserved
loop-k-preserved c =
    subst (IsFirstBelow c.args.items.now c.args.found.now (c.loop-k.k + 1)) (sym c.more-best.ensures)
    (first_step c.args.items.now c.args.found.now c.loop-k.k c.index-items-k.result _ c.loop-k.best (slice_get_read c.args.items.now (length c.args.items.now) c.loop-k.k c.index-items-k.result refl c.loop-k-test.true c.index-items-k.is)
    (slice_get-get_or c.args.found.now c.loop-k.k _ (omega arith)) c.loop-k.invariant)

pub returns-clause-first : goal.returns-clause-first
returns-clause-first c = first_done c.args.items.now c.args.found.now c.loop-k.k c.loop-k.best (omega arith) c.loop-k.invariant

pub returns-clause-none : goal.returns-clause-none
returns-clause-none c = none_done c.args.items.now c.args.found.now c.loop-k.k c.loop-k.best (omega arith) c.requires c.loop-k.invariant

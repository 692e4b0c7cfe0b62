use Rattle.std.proofs.Common.{◌∙◌, sym, subst, ap, length}
use Rattle.flat_races.specs.Readers.{AreReaders}
use Rattle.flat_races.proofs.Firsts.{AreLeast, answer_first, answer_none, answer_own}
use Rattle.flat_races.proofs.race.race_offence.Goals as goal

pub returns-clause-first : goal.returns-clause-first
returns-clause-first c =
    let same = c.as_slice-3.ensures.value in
    answer_first c.args.nets.now c.as_slice-2.result.now c.args.items.now c.as_slice-3.result.now c.first_offence.result (subst (AreReaders c.args.nets.now c.args.items.now (length c.args.items.now)) (sym c.as_slice-2.ensures.value) c.in_ok-readers.ensures)
    (ap length same ∙ c.in_ok-found.ensures.long) (subst (AreLeast c.args.nets.now c.as_slice-2.result.now c.args.items.now) (sym same) c.in_ok-found.ensures.each) c.first_offence.ensures.first

pub returns-clause-none : goal.returns-clause-none
returns-clause-none c =
    let same = c.as_slice-3.ensures.value in
    answer_none c.args.nets.now c.as_slice-2.result.now c.args.items.now c.as_slice-3.result.now c.first_offence.result (subst (AreReaders c.args.nets.now c.args.items.now (length c.args.items.now)) (sym c.as_slice-2.ensures.value) c.in_ok-readers.ensures)
    (ap length same ∙ c.in_ok-found.ensures.long) (subst (AreLeast c.args.nets.now c.as_slice-2.result.now c.args.items.now) (sym same) c.in_ok-found.ensures.each) c.first_offence.ensures.none

pub returns-clause-own : goal.returns-clause-own
returns-clause-own c = answer_own c.args.nets.now c.args.items.now c.first_offence.result (returns-clause-none c)

use Rattle.rdl_effects.proofs.Conflicts.{found_first, found_none}
use Rattle.rdl_effects.proofs.effect.first_conflict.Goals as goal

pub returns-clause-first : goal.returns-clause-first
returns-clause-first c = found_first c.args.effect c.args.file.now _ _ _ c.as_slice.ensures.value c.first_of.ensures.first c.in_ok-places.ensures

pub returns-clause-none : goal.returns-clause-none
returns-clause-none c = found_none c.args.effect c.args.file.now _ _ _ c.as_slice.ensures.value c.first_of.ensures.none c.in_ok-places.ensures

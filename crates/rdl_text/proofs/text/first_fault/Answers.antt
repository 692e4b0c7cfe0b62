use Rattle.rdl_text.proofs.Faults.{found_first, found_none}
use Rattle.rdl_text.proofs.text.first_fault.Goals as goal

pub returns-clause-first : goal.returns-clause-first
returns-clause-first c = found_first c.args.check c.args.file.now _ _ _ c.as_slice.ensures.value c.first_of.ensures.first c.in_ok-places.ensures

pub returns-clause-none : goal.returns-clause-none
returns-clause-none c = found_none c.args.check c.args.file.now _ _ _ c.as_slice.ensures.value c.first_of.ensures.none c.in_ok-places.ensures

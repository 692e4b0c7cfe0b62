-- The laws on lists, at this bus.
use Rattle.apb_rules.proofs.Driven.{driven_is_master, master_is_driven, master_fits}
use Rattle.apb_rules.proofs.legal.master_by_choices.Goals as goal

pub returns-clause-drives_legal : goal.returns-clause-drives_legal
returns-clause-drives_legal c = driven_is_master c.args.style c.args.bytes c.args.resets

pub returns-clause-legal_is_driven : goal.returns-clause-legal_is_driven
returns-clause-legal_is_driven c = master_is_driven c.args.style c.args.bytes c.args.resets

pub returns-clause-choices_fit : goal.returns-clause-choices_fit
returns-clause-choices_fit c = master_fits c.args.style c.args.bytes c.args.resets

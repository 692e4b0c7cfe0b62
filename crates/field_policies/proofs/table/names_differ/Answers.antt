use Rattle.field_policies.proofs.PolicyLemmas.{names_differ}
use Rattle.field_policies.proofs.table.names_differ.Goals as goal

pub returns : goal.returns
returns c = names_differ

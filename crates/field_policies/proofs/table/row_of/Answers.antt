-- The table has the policies' rows in the order of their names.
use Rattle.std.proofs.Common.{slice_get, sym, ◌∙◌, ap}
use Rattle.std.proofs.lemmas.Option.{same_Some}
use denote.Enum.Declared.{tag_of}
use Rattle.field_policies.specs.contracts.policy.Policy.{the_type}
use Rattle.field_policies.proofs.PolicyLemmas.{row_at}
use Rattle.field_policies.proofs.table.row_of.Goals as goal

pub returns : goal.returns
returns c = same_Some _ _ (sym c.row.ensures ∙ ap (λ rows. slice_get rows (tag_of the_type c.args.policy)) c.policy_table.ensures ∙ row_at c.args.policy)

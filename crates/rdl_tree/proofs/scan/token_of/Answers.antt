use Rattle.rdl_tree.proofs.Tokens.{is_token-from}
use Rattle.rdl_tree.proofs.scan.token_of.Goals as goal

pub invariant_of-result : goal.invariant_of-result
invariant_of-result c = record { spelled = rw c.in_ok-text.ensures (is_token-from c.args.kind c.args.text.now c.in-Some.value c.requires c.in-Some.ensures) }

use Rattle.std.proofs.Common.{map}
use Rattle.k_induction.proofs.InductionLemmas.{safe_by_chains}
use Rattle.k_induction.proofs.VerdictLemmas.{counted_items}
use Rattle.k_induction.proofs.verdict.SafeCircuit.of.Goals as goal

pub invariant_of-result-clause-safe : goal.invariant_of-result-clause-safe
invariant_of-result-clause-safe c =
    safe_by_chains c.args.circuit c.args.set.clauses.items c.args.k (map (λ b. b.items) c.args.bases.items) c.args.step.items c.args.set.chains.items
    c.requires.askable.of c.requires.bases_refute (counted_items (λ b. b.items) c.args.k c.args.bases.items c.requires.counted) c.requires.step_refutes c.requires.keep_refutes

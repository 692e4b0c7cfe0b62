use Rattle.std.proofs.Common.{map, arith}
use Rattle.k_induction.specs.Verdicts.{IsProof, IsShortest, IsLoose, BudgetIs}
use Rattle.k_induction.proofs.InductionLemmas.{safe_good}
use Rattle.k_induction.proofs.VerdictLemmas.{items_counted, safe_by_proof, no_step_by_proof, closed_by, loose_not_found, bad_not_found, base_when_bad, loose_when_bad}
use Rattle.k_induction.proofs.decide.decide.Goals as goal

pub of-safe-requires : goal.of-safe-requires
of-safe-requires c =
    let proof : IsProof c.args.circuit c.args.set.clauses.items c.args.bound c.in-Proof.k (map (λ b. b.items) c.in-Proof.bases.items) c.in-Proof.step.items = rw (c.in-Proof.is, c.as_slice.ensures.value) at c.in_ok-k.ensures in
    record {
      some = proof.some;
      few = omega (arith, proof.within, c.requires.few);
      counted = items_counted (λ b. b.items) c.in-Proof.k c.in-Proof.bases.items proof.counted;
      askable = c.requires.askable;
      bases_refute = proof.bases_refute;
      step_refutes = proof.step_refutes;
      keep_refutes = c.requires.set;
    }

pub returns-in-Proof-clause-bad_is_found : goal.returns-in-Proof-clause-bad_is_found
returns-in-Proof-clause-bad_is_found c s xs k r some le =
    let proof : IsProof c.args.circuit c.args.set.clauses.items c.args.bound c.in-Proof.k (map (λ b. b.items) c.in-Proof.bases.items) c.in-Proof.step.items = rw (c.in-Proof.is, c.as_slice.ensures.value) at c.in_ok-k.ensures in
    safe_good c.args.circuit k s xs (safe_by_proof c.args.circuit c.args.set.clauses.items c.args.bound c.in-Proof.k (map (λ b. b.items) c.in-Proof.bases.items) c.in-Proof.step.items c.args.set.chains.items c.requires.askable.of proof c.requires.set) r some

pub returns-in-Bad-clause-safe_is_found : goal.returns-in-Bad-clause-safe_is_found
returns-in-Bad-clause-safe_is_found c safe k le none =
    let shortest : IsShortest c.args.circuit c.args.bound c.in-Bad.bad = rw c.in-Bad.is at c.in_ok-k.ensures in
    bad_not_found c.args.circuit c.args.bound c.in-Bad.bad safe shortest

pub returns-in-Loose-clause-bad_is_found : goal.returns-in-Loose-clause-bad_is_found
returns-in-Loose-clause-bad_is_found c s xs k r some le =
    let loose : IsLoose c.args.circuit c.args.set.clauses.items c.args.bound c.in-Loose.loose = rw (c.in-Loose.is, c.as_slice.ensures.value) at c.in_ok-k.ensures in
    loose_when_bad c.args.circuit c.args.set.clauses.items c.args.bound c.in-Loose.loose k s xs loose r some le

pub returns-in-Loose-clause-safe_is_found : goal.returns-in-Loose-clause-safe_is_found
returns-in-Loose-clause-safe_is_found c safe k le none =
    let loose : IsLoose c.args.circuit c.args.set.clauses.items c.args.bound c.in-Loose.loose = rw (c.in-Loose.is, c.as_slice.ensures.value) at c.in_ok-k.ensures in
    loose_not_found c.args.circuit c.args.set.clauses.items c.args.bound k c.in-Loose.loose (closed_by c.args.circuit c.args.set.clauses.items c.args.set.chains.items c.requires.askable.of c.requires.set) none le loose

pub returns-in-BudgetSpent-clause-bad_is_found : goal.returns-in-BudgetSpent-clause-bad_is_found
returns-in-BudgetSpent-clause-bad_is_found c s xs k r some le =
    let spent : BudgetIs c.in-BudgetSpent.query c.args.circuit c.args.set.clauses.items c.args.bound c.args.budget c.in-BudgetSpent.k c.in-BudgetSpent.lemmas = rw (c.in-BudgetSpent.is, c.as_slice.ensures.value) at c.in_ok-k.ensures in
    base_when_bad c.in-BudgetSpent.query c.args.circuit c.args.set.clauses.items c.args.bound c.args.budget c.in-BudgetSpent.k c.in-BudgetSpent.lemmas k s xs spent r some le

pub returns-in-Proof-clause-safe_by_step : goal.returns-in-Proof-clause-safe_by_step
returns-in-Proof-clause-safe_by_step c =
    let proof : IsProof c.args.circuit c.args.set.clauses.items c.args.bound c.in-Proof.k (map (λ b. b.items) c.in-Proof.bases.items) c.in-Proof.step.items = rw (c.in-Proof.is, c.as_slice.ensures.value) at c.in_ok-k.ensures in
    rw c.of-safe.ensures.k (no_step_by_proof c.args.circuit c.args.set.clauses.items c.args.bound c.in-Proof.k (map (λ b. b.items) c.in-Proof.bases.items) c.in-Proof.step.items c.requires.askable.of proof)

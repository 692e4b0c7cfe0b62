use Rattle.std.proofs.Common.{◌≡◌, ◌≤◌, [], Some, None, length, ap, sym, arith}
use Rattle.std.proofs.lemmas.Result.{err_from_is_err_and}
use Rattle.unroll_cnf.specs.Latches.{IsOfLatches, weight}
use Rattle.cert_text.specs.Lines.{clause_of}
use Rattle.cert_text.specs.Reading.{ClausesDue}
use Rattle.cert_text.proofs.ReadLemmas.{set_step, set_fault, set_end, set_done, weight_push, of_push}
use Rattle.cert_text.proofs.read.read_set.Goals as goal

pub returns-in_err-line-clause-reads : goal.returns-in_err-line-clause-reads
returns-in_err-line-clause-reads c =
    let p = err_from_is_err_and c.from_residual.result c.from_residual.ensures.1 in
    rw (p.1, p.2, c.in_err-line.ensures.ended) (λ d k long. set_end d (ClausesDue k [] c.args.count) k c.clauses.set.items c.args.count _ _ _ _ c.in_err-line.ensures.none (c.clauses.invariant.leads d k long))

pub clauses-preserved : goal.clauses-preserved
clauses-preserved c =
    let is : Some c.in-Some.clause ≡ clause_of c.args.latches c.in_ok-line.line.now = rw c.in-Some.is at c.in_ok-clause.ensures.clause in
    let few : length c.in-Some.clause ≤ length c.in_ok-line.line.now = rw c.in-Some.is at c.in_ok-clause.ensures.few in
    let of : IsOfLatches c.args.latches c.in-Some.clause = rw c.in-Some.is at c.in_ok-clause.ensures.of in
    record {
      leads = λ d k long. set_step d (ClausesDue k [] c.args.count) k c.clauses.set.items c.push.new.self.items c.args.count c.args.latches _ _ _ _ _ _ _ c.in-Some.clause long (sym is) c.in_ok-line.ensures.took c.in_ok-line.ensures.next c.in_ok-push-in-Some.ensures.items (omega (arith, c.clauses-test.true)) (c.clauses.invariant.leads d k long);
      of = rw c.in_ok-push-in-Some.ensures.items (of_push c.args.latches c.clauses.set.items c.in-Some.clause c.clauses.invariant.of of);
      small = omega (arith, ap weight c.in_ok-push-in-Some.ensures.items, weight_push c.clauses.set.items c.in-Some.clause, few, c.in_ok-line.ensures.took.long, c.clauses.invariant.small);
    }

pub returns-in-None-clause-reads : goal.returns-in-None-clause-reads
returns-in-None-clause-reads c =
    let is : None ≡ clause_of c.args.latches c.in_ok-line.line.now = rw c.in-None.is at c.in_ok-clause.ensures.clause in
    rw c.wrong_line.ensures (λ d k long. set_fault d (ClausesDue k [] c.args.count) k c.clauses.set.items c.args.count c.args.latches _ _ _ _ _ _ long (sym is) c.in_ok-line.ensures.took (omega (arith, c.clauses-test.true)) (c.clauses.invariant.leads d k long))

pub returns-clause-reads : goal.returns-clause-reads
returns-clause-reads c = λ d k long. set_done d (ClausesDue k [] c.args.count) k c.clauses.set.items c.args.count _ _ _ _ (omega (arith, c.clauses-test.false)) (c.clauses.invariant.leads d k long)

use Rattle.std.proofs.Common.{[], length, ap, sym, arith}
use Rattle.std.proofs.lemmas.Result.{err_from_is_err_and}
use Rattle.cert_text.specs.Reading.{HeaderDue, BoundDue, ClausesDue, ChainsDue}
use Rattle.cert_text.proofs.ReadLemmas.{leads_more, fault_after, header_due, keep_due}
use Rattle.cert_text.proofs.check.read_head.Goals as goal

pub returns-in_err-read_due-clause-reads : goal.returns-in_err-read_due-clause-reads
returns-in_err-read_due-clause-reads c =
    let p = err_from_is_err_and c.from_residual.result c.from_residual.ensures.1 in
    rw (p.1, p.2) (c.in_err-read_due.ensures c.args.circuit.now HeaderDue BoundDue (header_due c.args.circuit.now))

pub returns-in_err-k-clause-reads : goal.returns-in_err-k-clause-reads
returns-in_err-k-clause-reads c =
    let p = err_from_is_err_and c.from_residual-in_err-k.result c.from_residual-in_err-k.ensures.1 in
    let one = c.in_ok-read_due.ensures c.args.circuit.now HeaderDue BoundDue (header_due c.args.circuit.now) in
    rw (p.1, p.2) (fault_after _ _ _ _ _ _ _ _ one (c.in_err-k.ensures.reads c.args.circuit.now))

pub returns-in_err-count-clause-reads : goal.returns-in_err-count-clause-reads
returns-in_err-count-clause-reads c =
    let p = err_from_is_err_and c.from_residual-in_err-count.result c.from_residual-in_err-count.ensures.1 in
    let one = c.in_ok-read_due.ensures c.args.circuit.now HeaderDue BoundDue (header_due c.args.circuit.now) in
    let two = leads_more _ _ _ _ _ _ _ _ _ _ one (c.in_ok-k.ensures.reads c.args.circuit.now) in
    rw (p.1, p.2) (fault_after _ _ _ _ _ _ _ _ two (c.in_err-count.ensures c.args.circuit.now c.in_ok-k.k))

pub returns-in_err-set-clause-reads : goal.returns-in_err-set-clause-reads
returns-in_err-set-clause-reads c =
    let p = err_from_is_err_and c.from_residual-in_err-set.result c.from_residual-in_err-set.ensures.1 in
    let one = c.in_ok-read_due.ensures c.args.circuit.now HeaderDue BoundDue (header_due c.args.circuit.now) in
    let two = leads_more _ _ _ _ _ _ _ _ _ _ one (c.in_ok-k.ensures.reads c.args.circuit.now) in
    let three = leads_more _ _ _ _ _ _ _ _ _ _ two (c.in_ok-count.ensures c.args.circuit.now c.in_ok-k.k) in
    rw (p.1, p.2) (fault_after _ _ _ _ _ _ _ _ three (c.in_err-set.ensures.reads c.args.circuit.now c.in_ok-k.k (ap length (sym c.as_slice-latches.ensures.value))))

pub returns-in_err-read_due-2-clause-reads : goal.returns-in_err-read_due-2-clause-reads
returns-in_err-read_due-2-clause-reads c =
    let p = err_from_is_err_and c.from_residual-in_err-read_due-2.result c.from_residual-in_err-read_due-2.ensures.1 in
    let one = c.in_ok-read_due.ensures c.args.circuit.now HeaderDue BoundDue (header_due c.args.circuit.now) in
    let two = leads_more _ _ _ _ _ _ _ _ _ _ one (c.in_ok-k.ensures.reads c.args.circuit.now) in
    let three = leads_more _ _ _ _ _ _ _ _ _ _ two (c.in_ok-count.ensures c.args.circuit.now c.in_ok-k.k) in
    let four = leads_more _ _ _ _ _ _ _ _ _ _ three (c.in_ok-set.ensures.reads c.args.circuit.now c.in_ok-k.k (ap length (sym c.as_slice-latches.ensures.value))) in
    rw (p.1, p.2) (fault_after _ _ _ _ _ _ _ _ four (c.in_err-read_due-2.ensures c.args.circuit.now (ClausesDue c.in_ok-k.k c.in_ok-set.set.items 0) (ChainsDue c.in_ok-k.k c.in_ok-set.set.items [] []) (keep_due c.args.circuit.now c.in_ok-k.k c.in_ok-set.set.items)))

pub returns-clause-reads : goal.returns-clause-reads
returns-clause-reads c =
    let one = c.in_ok-read_due.ensures c.args.circuit.now HeaderDue BoundDue (header_due c.args.circuit.now) in
    let two = leads_more _ _ _ _ _ _ _ _ _ _ one (c.in_ok-k.ensures.reads c.args.circuit.now) in
    let three = leads_more _ _ _ _ _ _ _ _ _ _ two (c.in_ok-count.ensures c.args.circuit.now c.in_ok-k.k) in
    let four = leads_more _ _ _ _ _ _ _ _ _ _ three (c.in_ok-set.ensures.reads c.args.circuit.now c.in_ok-k.k (ap length (sym c.as_slice-latches.ensures.value))) in
    leads_more _ _ _ _ _ _ _ _ _ _ four (c.in_ok-read_due-2.ensures c.args.circuit.now (ClausesDue c.in_ok-k.k c.in_ok-set.set.items 0) (ChainsDue c.in_ok-k.k c.in_ok-set.set.items [] []) (keep_due c.args.circuit.now c.in_ok-k.k c.in_ok-set.set.items))

pub returns-clause-small : goal.returns-clause-small
returns-clause-small c = omega (arith, c.in_ok-set.ensures.small, c.read_count.new.lines.small, c.read_count.new.lines.counted)

use Rattle.std.proofs.Common.{◌+◌, Result, Ok, Err, refl, arith}
use Rattle.trace_replay.specs.declared.fault.TraceCode.TheVariants as code
use Rattle.trace_replay.specs.declared.fault.TraceFault.{TraceFault}
use Rattle.trace_replay.specs.declared.fault.TraceFault.TheVariants.{At}
use Rattle.trace_replay.specs.declared.trace.Trace.{Trace}
use Rattle.trace_replay.specs.Trace.{lists_of}
use Rattle.std.proofs.lemmas.Result.{err_from_is_err_and}
use Rattle.trace_replay.proofs.ReadLemmas.{lines-trace}
use Rattle.trace_replay.proofs.TraceTheorem.{Truth, refused-truth, illegal-truth, accepts, size, wrong-line, wrong-name, illegal, reads_back, legal_of}
use Rattle.trace_replay.proofs.read.read_trace.Goals as goal

pub returns-in_err-trace : goal.returns-in_err-trace
returns-in_err-trace c =
    let p = err_from_is_err_and c.from_residual.result c.from_residual.ensures.1 in
    let truth : Truth c.args.block.now c.args.bytes.now c.from_residual.result =
    rw (p.1, p.2) (refused-truth c.args.block.now c.args.bytes.now c.in_err-trace.field-0.0 (omega arith) c.in_err-trace.ensures) in
    record {
      accepts = accepts c.args.block.now c.args.bytes.now c.from_residual.result truth;
      legal = legal_of c.args.block.now c.args.bytes.now c.from_residual.result truth;
      trace_size = size c.args.block.now c.args.bytes.now c.from_residual.result truth;
      trace_line = wrong-line c.args.block.now c.args.bytes.now c.from_residual.result truth;
      trace_name = wrong-name c.args.block.now c.args.bytes.now c.from_residual.result truth;
      trace_illegal = illegal c.args.block.now c.args.bytes.now c.from_residual.result truth;
      reads_back = reads_back c.args.block.now c.args.bytes.now c.from_residual.result truth;
    }

pub returns-in-Some : goal.returns-in-Some
returns-in-Some c =
    let block = c.args.block.now in
    let bytes = c.args.bytes.now in
    let result : Result Trace TraceFault = Err (At code.TraceIllegal (c.in-Some.edge + 3)) in
    let trace = c.in_ok-trace.trace in
    let truth : Truth block bytes (Err (At code.TraceIllegal (c.in-Some.edge + 3))) =
    illegal-truth block bytes trace.start.items (lists_of trace.edges.items) c.in-Some.edge (c.in-Some.edge + 3) (omega (arith, c.if-bytes-gt-TRACE_LIMIT.false)) c.in_ok-trace.ensures.0
    (lines-trace bytes trace.start.items (lists_of trace.edges.items) c.in_ok-trace.ensures.1) (rw c.in-Some.is at c.in_ok-forbidden.ensures.allowed) refl in
    record {
      accepts = accepts block bytes result truth;
      legal = legal_of block bytes result truth;
      trace_size = size block bytes result truth;
      trace_line = wrong-line block bytes result truth;
      trace_name = wrong-name block bytes result truth;
      trace_illegal = illegal block bytes result truth;
      reads_back = reads_back block bytes result truth;
    }

pub returns-in-None : goal.returns-in-None
returns-in-None c =
    let block = c.args.block.now in
    let bytes = c.args.bytes.now in
    let trace = c.in_ok-trace.trace in
    let result : Result Trace TraceFault = Ok trace in
    let truth : Truth block bytes (Ok trace) =
    (omega arith, record { sizes = c.in_ok-trace.ensures.0; allowed = rw c.in-None.is at c.in_ok-forbidden.ensures.allowed }, lines-trace bytes trace.start.items (lists_of trace.edges.items) c.in_ok-trace.ensures.1) in
    record {
      accepts = accepts block bytes result truth;
      legal = legal_of block bytes result truth;
      trace_size = size block bytes result truth;
      trace_line = wrong-line block bytes result truth;
      trace_name = wrong-name block bytes result truth;
      trace_illegal = illegal block bytes result truth;
      reads_back = reads_back block bytes result truth;
    }

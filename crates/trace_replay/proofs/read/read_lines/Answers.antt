use Rattle.std.proofs.Common.{◌∙◌, sym, Bool, Vec, Global}
use Rattle.std.proofs.lemmas.Result.{err_from_is_err_and}
use Rattle.std.proofs.lemmas.List.{length-map}
use Rattle.trace_replay.specs.Trace.{lists_of}
use Rattle.trace_replay.proofs.ReadLemmas.{refused-edge, push-lines, push-sizes}
use Rattle.trace_replay.proofs.read.read_lines.Goals as goal

pub returns-in_err-bits : goal.returns-in_err-bits
returns-in_err-bits c =
    let p = err_from_is_err_and c.from_residual-in_err-bits.result c.from_residual-in_err-bits.ensures.1 in
    rw (p.1, p.2)
    (refused-edge _ c.loop-edges.lines c.in_ok-start.start.items (lists_of c.loop-edges.edges.items) c.len.result c.loop-edges.invariant.lines c.loop-edges.invariant.some
    c.loop-edges.invariant.sizes (c.len.ensures ∙ c.loop-edges.edges.ok.0 ∙ sym (length-map c.loop-edges.edges.items (λ (v : Vec Bool Global). v.items)))
    c.in_err-bits.field-0.0 c.in_err-bits.ensures)

pub loop-edges-preserved : goal.loop-edges-preserved
loop-edges-preserved c =
    let step = rw c.in-Some.is at c.in_ok-bits.ensures in
    record {
      lines = push-lines _ c.in_ok-start.start.items c.loop-edges.edges.items c.in-Some.bits c.push.new.self.items c.loop-edges.lines c.read_edge.new.lines
          c.loop-edges.invariant.lines step.0 c.in_ok-push.ensures.items;
      some = step.1;
      sizes = push-sizes c.in_ok-start.start.items c.loop-edges.edges.items c.in-Some.bits c.push.new.self.items c.len.result (c.len.ensures ∙ c.loop-edges.edges.ok.0) c.loop-edges.invariant.sizes step.2 step.3 c.in_ok-push.ensures.items;
    }

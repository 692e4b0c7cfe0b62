use Rattle.std.proofs.Common.{◌≡◌, Bool, ◌+◌, ◌-◌, ◌++◌, List, [], Vec, Global, map, get_or, ap, ◌∙◌, arith}
use Rattle.gate_graph.specs.Values.{at}
use Rattle.unroll_cnf.specs.Cones.{marks_at}
use Rattle.unroll_cnf.specs.Queries.{edge_clauses}
use Rattle.unroll_cnf.proofs.ConeLemmas.{marks_read}
use Rattle.unroll_cnf.proofs.PushLemmas.{pushed_edge}
use Rattle.unroll_cnf.proofs.edges.push_run.Goals as goal

pub loop-t-init : goal.loop-t-init
loop-t-init c =
    let marks : c.as_slice.result.now ≡ get_or (map (λ (x : Vec Bool Global). x.items) c.args.cones.now) c.args.last [] = marks_read c.args.cones.now c.args.last c.index-cones-last.result c.as_slice.result.now (omega (arith, c.requires.cones)) c.index-cones-last.is c.as_slice.ensures.value in
    let last : c.args.last ≡ c.args.last - 0 = omega arith in
    c.in_ok-push_edge.ensures
    ∙ ap (λ (m : List Bool). c.args.out.now ++ edge_clauses c.args.circuit.now (at m) 0) (marks ∙ ap (λ k. get_or (map (λ (x : Vec Bool Global). x.items) c.args.cones.now) k []) last)

pub loop-t-preserved : goal.loop-t-preserved
loop-t-preserved c =
    let place : c.args.last - c.loop-t.t - 1 ≡ c.args.last - (c.loop-t.t + 1) = omega arith in
    let marks : c.as_slice-marks.result.now ≡ get_or (map (λ (x : Vec Bool Global). x.items) c.args.cones.now) (c.args.last - c.loop-t.t - 1) [] = marks_read c.args.cones.now (c.args.last - c.loop-t.t - 1) c.index-cones-last-in-loop-t.result c.as_slice-marks.result.now (omega (arith, c.requires.cones)) c.index-cones-last-in-loop-t.is c.as_slice-marks.ensures.value in
    pushed_edge c.args.circuit.now (marks_at (map (λ (x : Vec Bool Global). x.items) c.args.cones.now) c.args.last) c.loop-t.t (at c.as_slice-marks.result.now) _ _ _ _
    (ap at (marks ∙ ap (λ k. get_or (map (λ (x : Vec Bool Global). x.items) c.args.cones.now) k []) place))
    c.loop-t.invariant c.in_ok-push_link.ensures c.in_ok-push_edge-2.ensures

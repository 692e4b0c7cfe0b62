use Rattle.std.proofs.Common.{List, Bool, Vec, Global, [], ◌∷◌, ◌++◌, map, ap, sym, ◌∙◌, arith}
use Rattle.std.proofs.lemmas.List.{map_push, length-map, get_or-map}
use Rattle.unroll_cnf.proofs.ConeLemmas.{cones_one, cones_more}
use Rattle.unroll_cnf.proofs.cones.bad_cones.Goals as goal

pub loop-d-init : goal.loop-d-init
loop-d-init c = cones_one c.args.circuit.now c.args.every _ c.in_ok-last.last.items (ap (map (λ (m : Vec Bool Global). m.items)) (c.in_ok-push.ensures.items ∙ ap (λ (z : List (Vec Bool Global)). z ++ c.in_ok-last.last ∷ []) c.new-cones.ensures.items)) c.in_ok-last.ensures

pub loop-d-preserved : goal.loop-d-preserved
loop-d-preserved c = cones_more c.args.circuit.now c.args.every c.loop-d.d (map (λ (m : Vec Bool Global). m.items) c.loop-d.cones.items) _ c.in_ok-marks.marks.items c.as_slice.result.now c.loop-d.invariant
    (ap (map (λ (m : Vec Bool Global). m.items)) c.in_ok-push-2.ensures.items ∙ map_push (λ (m : Vec Bool Global). m.items) c.loop-d.cones.items c.in_ok-marks.marks)
    (get_or-map (λ (m : Vec Bool Global). m.items) c.loop-d.cones.items c.loop-d.d c.index.result.now [] (omega (arith, length-map c.loop-d.cones.items (λ (m : Vec Bool Global). m.items), c.loop-d.invariant.long)) ∙ (ap (λ (m : Vec Bool Global). m.items) (sym c.index.ensures) ∙ sym c.as_slice.ensures.value))
    c.in_ok-marks.ensures

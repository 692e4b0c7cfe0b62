use Rattle.std.proofs.Common.{◌∙◌, ap, map, not, subst, Option, List, Bool}
use Rattle.bit_base.specs.Operators.{are_all, or_of, xnor_of}
use Rattle.flat_design.specs.Reads.{constant_in}
use Rattle.flat_flows.specs.Ranges.{constant_is}
use Rattle.flat_flows.proofs.Matching.{constant_matches}
use Rattle.flat_flows.proofs.full.label_matches.Goals as goal

pub returns : goal.returns
returns c nets there =
    c.are_all.ensures ∙ ap are_all c.as_slice-5.ensures
    ∙ constant_matches nets c.args.label.now c.args.label.now.value.signed c.in-Some.value c.args.word.now c.in_ok-same.same c.in_ok-careless.careless c.in_ok-each.each
    (subst (λ (o : Option (List Bool)). constant_is c.args.label.now.value.signed o (constant_in nets c.args.label.now.value)) c.in-Some.is (c.in_ok-value.ensures nets))
    (c.in_ok-same.ensures.value ∙ ap (λ v. xnor_of v c.args.word.now) c.as_slice.ensures)
    (c.in_ok-careless.ensures.value ∙ ap (map not) c.as_slice-2.ensures)
    (c.in_ok-each.ensures.value ∙ (λ j. or_of (c.as_slice-3.ensures j) (c.as_slice-4.ensures j)))

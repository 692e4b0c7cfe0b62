use Rattle.std.proofs.Common.{ℕ, ◌+◌, ◌^◌, ◌<◌, List, length, slice_index_or, ap, ◌∙◌, arith}
use Rattle.unroll_cnf.specs.Queries.{plain, signed, latch_literal}
use Rattle.unroll_cnf.proofs.DistinctLemmas.{place_within, place_small}
use Rattle.unroll_cnf.proofs.sets.state_literal.Goals as goal

pub bounds-places-literal : goal.bounds-places-literal
bounds-places-literal c = omega (arith, ap length c.requires.places, place_within c.args.circuit.now c.args.literal.latch c.requires.of)

pub overflow_add-place : goal.overflow_add-place
overflow_add-place c =
    let below : slice_index_or c.args.places.now c.args.literal.latch 0 < 2 ^ 20 = rw c.requires.places (place_small c.args.circuit.now c.args.literal.latch c.requires.of) in
    omega (arith, below, c.requires.first)

pub plain_literal-requires : goal.plain_literal-requires
plain_literal-requires c =
    let below : slice_index_or c.args.places.now c.args.literal.latch 0 < 2 ^ 20 = rw c.requires.places (place_small c.args.circuit.now c.args.literal.latch c.requires.of) in
    record { small = omega (arith, below, c.requires.first) }

pub returns : goal.returns
unfolding latch_literal
returns c =
    c.signed_literal.ensures.value
    ∙ ap (signed c.args.literal.negated) (c.plain_literal.ensures ∙ ap (λ (places : List ℕ). plain (slice_index_or places c.args.literal.latch 0 + c.args.first)) c.requires.places)

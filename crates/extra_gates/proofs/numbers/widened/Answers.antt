use Rattle.std.proofs.Common.{◌≡◌, [], ◌∷◌, ◌++◌, ap, append_assoc, length-append}
use Rattle.gate_graph.specs.declared.wires.Wire.{Wire}
use Rattle.word_gates.proofs.ExactLemmas.{off_is}
use Rattle.extra_gates.proofs.WordLaws.{widened_shows}
use Rattle.extra_gates.proofs.numbers.widened.Goals as goal

pub returns : goal.returns
returns c =
    let none : Wire = c.zero-none.result in
    let e : c.push-2.new.self.items ≡ c.args.a.now ++ (none ∷ (none ∷ [])) =
    rw (c.in_ok-push-2.ensures.items, c.in_ok-push.ensures.items, c.in_ok-extend_from_slice.ensures.items, c.new-wires.ensures.items) (append_assoc c.args.a.now (none ∷ []) (none ∷ [])) in
    let shows = widened_shows c.args.graph.now c.args.a.now none c.requires c.zero-none.ensures.value in
    rw e record {
      length = length-append c.args.a.now (none ∷ (none ∷ []));
      of = shows.of;
      value = shows;
      exact = ap (λ (w : Wire). c.args.a.now ++ (w ∷ (w ∷ []))) (off_is none c.zero-none.ensures.wire);
    }

use Rattle.std.proofs.Common.{not, ◌&&◌, refl}
use Rattle.field_policies.specs.Policies.{read_bit}
use Rattle.gate_graph.specs.Gates.{Respects}
use Rattle.gate_graph.proofs.GateLemmas.{respects_old}
use Rattle.word_gates.specs.Words.{values}
use Rattle.word_gates.proofs.WordLemmas.{shows_same}
use Rattle.field_gates.proofs.EffectLemmas.{map_alike}
use Rattle.field_gates.proofs.next.next_word.Goals as goal

pub returns-clause-value : goal.returns-clause-value
returns-clause-value c = shows_same _ _ _ _ c.in_ok-wires.ensures.value (λ v r.
    let third : Respects v c.between.new.graph = respects_old v _ _ _ c.between-2.ensures.nodes r in
    let second : Respects v c.pick.new.graph = respects_old v _ _ _ c.between.ensures.nodes third in
    let first : Respects v c.args.graph.now = respects_old v _ _ _ c.pick.ensures.nodes second in
    rw (
      c.as_slice-3.ensures.value,
      c.in_ok-other.ensures.value.value v third,
      c.as_slice.ensures.value,
      c.as_slice-2.ensures.value,
      c.in_ok-given.ensures.value.value v second,
      c.in_ok-resting.ensures.value.value v first,
      map_alike (read_bit c.resting_effect.result) (λ x. not c.args.pulse && x) (values v c.args.value.now) c.resting_effect.ensures.value,
    )
    refl)

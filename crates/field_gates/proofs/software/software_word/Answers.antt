use Rattle.std.proofs.Common.{refl}
use Rattle.gate_graph.specs.Gates.{Respects}
use Rattle.gate_graph.proofs.GateLemmas.{respects_old}
use Rattle.word_gates.proofs.WordLemmas.{shows_same}
use Rattle.field_gates.proofs.software.software_word.Goals as goal

pub returns-clause-value : goal.returns-clause-value
returns-clause-value c = shows_same _ _ _ _ c.in_ok-wires.ensures.value (λ v r.
    let second : Respects v c.pick.new.graph = respects_old v _ _ _ c.between.ensures.nodes r in
    let first : Respects v c.write_word.new.graph = respects_old v _ _ _ c.pick.ensures.nodes second in
    rw (
      c.as_slice-2.ensures.value,
      c.as_slice-3.ensures.value,
      c.in_ok-by_write.ensures.value.value v second,
      c.in_ok-by_read.ensures.value.value v second,
      c.as_slice.ensures.value,
      c.in_ok-effect.ensures.value.value v first,
    )
    refl)

use Rattle.word_gates.proofs.WordLemmas.{are_of_kept}
use Rattle.machine_gates_tests.proofs.steps.built.Goals as goal

pub applied-requires-clause-a_of : goal.applied-requires-clause-a_of
applied-requires-clause-a_of c =
    rw c.as_slice.ensures.value (are_of_kept _ _ _ c.word-3.ensures.keeps (are_of_kept _ _ _ c.word-2.ensures.keeps c.in_ok-a.ensures.of))

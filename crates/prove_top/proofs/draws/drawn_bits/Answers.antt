use Rattle.std.proofs.Common.{◌%◌, ◌==◌, ◌∙◌, ap, length, map, ℕ}
use Rattle.prove_top.proofs.DrawLemmas.{drawn_length}
use Rattle.prove_top.proofs.draws.drawn_bits.Goals as goal

pub returns-clause-count : goal.returns-clause-count
returns-clause-count c =
    ap length (c.in_ok-bits.ensures ∙ ap (map (λ (w : ℕ). w % 2 == 1)) (c.deref.ensures.value ∙ c.in_ok-words.ensures)) ∙ drawn_length (λ (w : ℕ). w % 2 == 1) _ _

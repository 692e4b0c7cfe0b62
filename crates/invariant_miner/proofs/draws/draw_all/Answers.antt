use Rattle.std.proofs.Common.{◌≡◌, sym, ap, ◌∙◌, arith, inl, inr, get_or-set_other, get_or-set_same, subst, ℕ, get_or, set}
use Rattle.std.proofs.lemmas.Bool.{cases_eq}
use Rattle.invariant_miner.specs.Draws.{word, next, word_at}
use Rattle.invariant_miner.proofs.DrawLemmas.{later_none, later_more}
use Rattle.invariant_miner.proofs.draws.draw_all.Goals as goal

pub loop-i-init : goal.loop-i-init
loop-i-init c = record { state = sym (later_none c.args.rng.now); words = λ k lt. absurd (omega arith) }

pub loop-i-preserved : goal.loop-i-preserved
loop-i-preserved c =
    let i = c.loop-i.invariant in
    record {
      state = c.draw.ensures.state ∙ (ap next i.state ∙ sym (later_more c.loop-i.i c.args.rng.now));
      words = λ k lt. elim (cases_eq k c.loop-i.i) [
        | inl e ↦ subst (λ (j : ℕ). get_or (set c.loop-i.words c.loop-i.i c.draw.result) j 0 ≡ word_at c.args.rng.now j) (sym e) (get_or-set_same c.loop-i.words c.loop-i.i c.draw.result 0 (omega arith) ∙ (c.draw.ensures.word ∙ ap word i.state))
        | inr away ↦ get_or-set_other c.loop-i.words c.loop-i.i k c.draw.result 0 away ∙ i.words k (omega arith)
      ];
    }

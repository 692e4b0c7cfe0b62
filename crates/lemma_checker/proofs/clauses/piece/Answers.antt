use Rattle.std.proofs.Common.{◌∙◌, ap, get_or, Some, slice_range, sym, ℕ}
use Rattle.lemma_checker.proofs.PieceLemmas.{get_piece}
use Rattle.lemma_checker.proofs.clauses.piece.Goals as goal

pub returns : goal.returns
returns c = record { value = get_piece c.args.literals.now 0 c.args.ends.now c.args.i 0 c.requires.within ∙ ap (λ (s : ℕ). Some (slice_range c.args.literals.now s (get_or c.args.ends.now c.args.i 0))) (sym c.start_of-start.ensures) }

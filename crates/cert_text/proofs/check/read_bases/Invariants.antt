use Rattle.std.proofs.Common.{◌≡◌, List, [], ◌∷◌, length, map}
use Rattle.lemma_checker.specs.Checker.{link}
use Rattle.unroll_cnf.specs.declared.latch_literal.LatchLiteral.{LatchLiteral}
use Rattle.k_induction.specs.Chains.{AreBases}
use Rattle.cert_text.specs.Reading.{ChainsDue, Link}
use Rattle.cert_text.specs.Steps.{Leads}
use Rattle.cert_text.proofs.check.read_bases.Given as goal

abbrev pub invariant-loop-i : goal.invariant-loop-i
invariant-loop-i l = record {
  leads : (set : List (List LatchLiteral)) (keep : List Link) → Leads l.circuit (ChainsDue l.k set (keep ∷ []) []) l.fn.lines.rest.now l.fn.lines.number (ChainsDue l.k set (keep ∷ map (λ b. map link b.items) l.bases.items) []) l.lines.rest.now l.lines.number;
  counted : length l.bases.items ≡ l.i;
  refute : AreBases l.circuit (map (λ b. b.items) l.bases.items);
}

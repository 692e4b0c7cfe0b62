use Rattle.std.proofs.Common.{◌≡◌, ◌<◌, length, map}
use Rattle.k_induction.specs.Safety.{IsGoodFor}
use Rattle.k_induction.specs.Chains.{AreBases}
use Rattle.k_induction.proofs.search.search.Given as goal

abbrev pub invariant-loop-i : goal.invariant-loop-i
invariant-loop-i l = record {
  good : IsGoodFor l.circuit l.i;
  bases : AreBases l.circuit (map (λ b. b.items) l.bases.items);
  counted : length l.bases.items ≡ l.i;
  more : l.i < l.bound;
}

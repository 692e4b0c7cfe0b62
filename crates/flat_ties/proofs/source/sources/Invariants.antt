use Rattle.std.proofs.Common.{◌≡◌, ℕ, length}
use Rattle.std.specs.Prelude.{false, replicate, Option, slice_get, Some}
use Rattle.flat_ties.specs.Sources.{IsSourceOf}
use Rattle.flat_ties.proofs.source.sources.Given as goal

abbrev pub invariant-loop-number : goal.invariant-loop-number
invariant-loop-number l = record {
  empty : l.seen ≡ replicate (length l.nets) false;
  long : length l.out.items ≡ l.number;
  each : (m : ℕ) (o : Option ℕ) → slice_get l.out.items m ≡ Some o → IsSourceOf l.nets l.items m o;
}

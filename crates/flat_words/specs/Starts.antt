-- Where a select begins, near the net: far offsets read and write the same bits as near ones.
use Rattle.std.specs.Prelude.{◌≡◌, ◌<◌, ◌+◌, ◌-◌, ℕ, true}
use Rattle.flat_design.specs.declared.net.Net.{Net}
use Rattle.flat_design.specs.Bits.{Offset, lies_inside}

-- each of so many bits as a select can have lies inside the net by both or by none, and then at one place
pub record AreAlike (net : Net) (o p : Offset) : Type 0 where
  pub inside : (k : ℕ) → k < 4294967296 → lies_inside net p k ≡ lies_inside net o k
  pub place : (k : ℕ) → k < 4294967296 → lies_inside net o k ≡ true → p.0 + k - p.1 ≡ o.0 + k - o.1

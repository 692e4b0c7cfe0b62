use Rattle.std.proofs.Common.{◌≡◌, ◌+◌, ◌≤◌, drop}
use Rattle.vlog_prep.specs.Places.{moved}
use Rattle.vlog_prep.proofs.places.moved.Given as goal

abbrev pub invariant-loop-byte : goal.invariant-loop-byte
invariant-loop-byte l = record {
  same : moved l.here (drop l.byte-index l.bytes) ≡ moved l.fn.place l.bytes;
  line : l.here.line ≤ l.fn.place.line + l.byte-index;
  column : l.here.column ≤ l.fn.place.column + l.byte-index;
}

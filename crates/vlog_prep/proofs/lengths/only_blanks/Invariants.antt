use Rattle.std.proofs.Common.{◌≡◌, drop}
use Rattle.vlog_prep.specs.Lexemes.{only_blanks}
use Rattle.vlog_prep.proofs.lengths.only_blanks.Given as goal

abbrev pub invariant-loop-byte : goal.invariant-loop-byte
invariant-loop-byte l = only_blanks (drop l.byte-index l.bytes) ≡ only_blanks l.bytes

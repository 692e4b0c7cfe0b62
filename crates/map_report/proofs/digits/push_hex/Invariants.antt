use Rattle.std.proofs.Common.{◌≡◌, ◌-◌, ◌++◌}
use Rattle.map_report.specs.Digits.{hex_of}
use Rattle.map_report.proofs.digits.push_hex.Given as goal

-- the text so far, and then the lower digits, are the whole
abbrev pub invariant-loop-at : goal.invariant-loop-at
invariant-loop-at l = l.text.items ++ hex_of (l.count - l.at) l.value ≡ l.fn.text.items ++ hex_of l.count l.value

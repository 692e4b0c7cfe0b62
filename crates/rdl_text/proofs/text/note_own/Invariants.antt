use Rattle.std.proofs.Common.{◌≡◌, [], ◌++◌, take, drop}
use Rattle.rdl_text.specs.Chains.{nows}
use Rattle.rdl_text.specs.Refusals.{refused_from}
use Rattle.rdl_text.proofs.text.note_own.Given as goal

abbrev pub invariant-loop-at : goal.invariant-loop-at
invariant-loop-at l = l.out.items ++ refused_from l.check (nows l.outer) l.kind l.items (take l.at l.items) (drop l.at l.items) ≡ l.fn.out.items ++ refused_from l.check (nows l.outer) l.kind l.items [] l.items

use Rattle.std.proofs.Common.{◌≡◌, [], ◌++◌, take, drop}
use Rattle.rdl_text.specs.Names.{repeated_next}
use Rattle.rdl_text.proofs.names.note_repeated_next.Given as goal

abbrev pub invariant-loop-at : goal.invariant-loop-at
invariant-loop-at l =
    l.out.items ++ repeated_next l.before l.first (take l.at l.insts) (drop l.at l.insts) ≡ l.fn.out.items ++ repeated_next l.before l.first [] l.insts

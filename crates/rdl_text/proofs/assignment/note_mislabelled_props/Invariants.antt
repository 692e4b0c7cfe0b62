use Rattle.std.proofs.Common.{◌≡◌, [], ◌++◌, take, drop}
use Rattle.rdl_text.specs.Assignments.{mislabelled_props}
use Rattle.rdl_text.proofs.assignment.note_mislabelled_props.Given as goal

abbrev pub invariant-loop-at : goal.invariant-loop-at
invariant-loop-at l = l.out.items ++ mislabelled_props (take l.at l.props) (drop l.at l.props) ≡ l.fn.out.items ++ mislabelled_props [] l.props

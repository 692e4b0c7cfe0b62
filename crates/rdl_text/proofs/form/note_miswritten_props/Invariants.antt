use Rattle.std.proofs.Common.{◌≡◌, ◌++◌, drop}
use Rattle.rdl_text.specs.Forms.{miswritten_props}
use Rattle.rdl_text.proofs.form.note_miswritten_props.Given as goal

abbrev pub invariant-loop-entry : goal.invariant-loop-entry
invariant-loop-entry l = l.out.items ++ miswritten_props (drop l.entry-index l.props) ≡ l.fn.out.items ++ miswritten_props l.props

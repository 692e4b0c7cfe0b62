-- References (SystemRDL 2.0, clause 5.2.2, "Property assignment", and the reductions of clause 9.6): a path to a field where
-- the property takes one, for one bit also with `->anded`, `->ored` or `->xored`.
use Rattle.std.specs.Prelude.{Bool, ◌||◌, if◌then◌else◌, Option, Some, None, codes}
use Rattle.rdl_tree.specs.declared.token.RdlToken.{RdlToken}
use Rattle.rdl_tree.specs.declared.tree.RdlAssigned.{RdlAssigned}
use Rattle.rdl_tree.specs.declared.tree.RdlValue.{RdlValue}
use Rattle.rdl_tree.specs.declared.tree.RdlValue.TheVariants as value
use Rattle.rdl_tree.specs.declared.tree.RdlPath.{RdlPath}
use Rattle.rdl_tree.specs.Tree.{is_text}
use Rattle.rdl_text.specs.declared.property.Form.{Form}
use Rattle.rdl_text.specs.declared.property.Form.TheVariants as form

unfoldable pub is_reduction : RdlToken → Bool
is_reduction t = is_text (codes "anded") t || is_text (codes "ored") t || is_text (codes "xored") t

abbrev pub bit_reference : RdlValue → Option RdlPath
bit_reference (value.Reference path None) = Some path
bit_reference (value.Reference path (Some s)) = if is_reduction s.name then Some path else None
bit_reference _ = None

abbrev pub whole_reference : RdlValue → Option RdlPath
whole_reference (value.Reference path None) = Some path
whole_reference _ = None

abbrev pub reference_in : Form → Option RdlAssigned → Option RdlPath
reference_in form.FlagOrBit (Some a) = bit_reference a.value
reference_in form.Whole (Some a) = whole_reference a.value
reference_in _ _ = None

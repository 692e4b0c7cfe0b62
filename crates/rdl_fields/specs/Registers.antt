-- The fields of a description, register by register in the order of the instances.
use Rattle.std.specs.Prelude.{ℕ, List, [], ◌∷◌, ◌++◌, Option}
use Rattle.rdl_tree.specs.declared.tree.RdlFile.{RdlFile}
use Rattle.rdl_tree.specs.declared.tree.RdlDef.{out-RdlDef}
use Rattle.rdl_text.specs.declared.instance.Body.{Body}
use Rattle.rdl_text.specs.declared.instance.Body.TheVariants as body
use Rattle.rdl_text.specs.Components.{Component}
use Rattle.rdl_text.specs.Instances.{kind_of}
use Rattle.rdl_values.specs.OneInstance.{Instance}
use Rattle.rdl_values.specs.OneFrame.{Target, Trail}
use Rattle.rdl_values.specs.Instances.{instances_of, top_of}
use Rattle.rdl_values.specs.Frames.{targets_of, frame_of}
use Rattle.rdl_effects.specs.Registers.{accesswidth_at}
use Rattle.rdl_layout.specs.declared.bits.Bits.{Bits}
use Rattle.rdl_layout.specs.Bits.{bits_of}
use Rattle.rdl_layout.specs.Walks.{Gives}
use Rattle.rdl_layout.specs.Registers.{below}
use Rattle.rdl_fields.specs.declared.named.NamedField.{NamedField}
use Rattle.rdl_fields.specs.Fields.{field_at}

-- a field of the register at the end of the trail, with these bits
abbrev pub field_in : ℕ → ℕ → Trail → List Target → Instance → Bits → NamedField
field_in register access t targets i b = field_at register access b.low (t ++ frame_of targets i 0 ∷ [])

-- those of a register, each behind the bits of the one before
abbrev pub fields_in : ℕ → ℕ → Trail → List Target → ℕ → List Instance → List NamedField
fields_in register access t targets next [] = []
fields_in register access t targets next (i ∷ is) =
    field_in register access t targets i (bits_of t targets next i) ∷ fields_in register access t targets (bits_of t targets next i).end is

abbrev pub fields_by : Body → Gives NamedField
fields_by body.Reg address t c = fields_in address (accesswidth_at t) t (targets_of (out-RdlDef c.definition).items) 0 (instances_of c)
fields_by _ address t c = []

abbrev pub fields_at : Gives NamedField
fields_at address t c = fields_by (kind_of c) address t c

abbrev pub fields_below : Option Component → List NamedField
fields_below top = below fields_at top

abbrev pub fields_of : RdlFile → List NamedField
fields_of file = fields_below (top_of file)

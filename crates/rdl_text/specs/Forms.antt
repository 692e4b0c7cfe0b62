-- Which values of a description are refused for their form, and where (SystemRDL 2.0, clauses 5.1.2 and 5.2): a value that
-- the property doesn't take, a reference that doesn't stand in an assignment to a path, and ranges, addresses, strides and
-- alignments that an instance can't have. A refusal stands at the assignment's first token, or at the instance's name.
use Rattle.std.specs.Prelude.{ℕ, Bool, true, false, not, ◌&&◌, ◌||◌, ◌==◌, nat_lt, nat_le, if◌then◌else◌, List, [], ◌∷◌, ◌++◌, Option, Some, None, is_some, is_none, codes}
use Rattle.bit_base.specs.declared.place.Place.{Place}
use Rattle.rdl_tree.specs.declared.token.RdlToken.{RdlToken}
use Rattle.rdl_tree.specs.declared.tree.RdlItem.{RdlItem}
use Rattle.rdl_tree.specs.declared.tree.RdlItem.TheOpen.{RdlItem-F}
use Rattle.rdl_tree.specs.declared.tree.RdlDef.{RdlDef, out-RdlDef}
use Rattle.rdl_tree.specs.declared.tree.RdlInst.{RdlInst}
use Rattle.rdl_tree.specs.declared.tree.RdlInsts.{RdlInsts}
use Rattle.rdl_tree.specs.declared.tree.RdlNextInst.{RdlNextInst}
use Rattle.rdl_tree.specs.declared.tree.RdlRange.{RdlRange}
use Rattle.rdl_tree.specs.declared.tree.RdlMarked.{RdlMarked}
use Rattle.rdl_tree.specs.declared.tree.RdlNextStep.{RdlNextStep}
use Rattle.rdl_tree.specs.declared.tree.RdlIndex.{RdlIndex}
use Rattle.rdl_tree.specs.declared.tree.RdlAssigned.{RdlAssigned}
use Rattle.rdl_tree.specs.declared.tree.RdlValue.{RdlValue}
use Rattle.rdl_tree.specs.declared.tree.RdlValue.TheVariants as value
use Rattle.rdl_tree.specs.declared.tree.RdlEntry.{RdlEntry}
use Rattle.rdl_tree.specs.declared.tree.RdlEntryBody.{RdlEntryBody}
use Rattle.rdl_tree.specs.declared.tree.RdlEntryProp.{RdlEntryProp}
use Rattle.rdl_tree.specs.Tree.{is_text}
use Rattle.rdl_text.specs.declared.property.Form.{Form}
use Rattle.rdl_text.specs.declared.property.Form.TheVariants as form
use Rattle.rdl_text.specs.declared.property.Row.{Row}
use Rattle.rdl_text.specs.Chains.{Chain}
use Rattle.rdl_text.specs.Components.{Component}
use Rattle.rdl_text.specs.Types.{type_of}
use Rattle.rdl_text.specs.Instances.{body_of, kind_of, is_field}
use Rattle.rdl_text.specs.Properties.{row_of}
use Rattle.rdl_text.specs.References.{bit_reference, whole_reference}
use Rattle.rdl_text.specs.Names.{place_if}
use Rattle.rdl_text.specs.Assignments.{is_label}

-- ---- values

abbrev pub is_string : RdlValue → Bool
is_string (value.Str t) = true
is_string _ = false

abbrev pub is_true : RdlValue → Bool
is_true (value.True t) = true
is_true _ = false

abbrev pub is_flag : RdlValue → Bool
is_flag (value.True t) = true
is_flag (value.False t) = true
is_flag _ = false

abbrev pub is_number : (ℕ → Bool) → RdlValue → Bool
is_number test (value.Num t) = test t.value
is_number test _ = false

-- a path of one name
abbrev pub lone : Option RdlIndex → List RdlNextStep → Bool
lone None [] = true
lone _ _ = false

abbrev pub word_of : RdlValue → Option RdlToken
word_of (value.Reference path None) = if lone path.first.index path.more then Some path.first.name else None
word_of _ = None

abbrev pub is_word : (RdlToken → Bool) → Option RdlToken → Bool
is_word test None = false
is_word test (Some t) = test t

unfoldable pub is_sw_word : RdlToken → Bool
is_sw_word t = is_text (codes "rw") t || is_text (codes "wr") t || is_text (codes "r") t || is_text (codes "w") t || is_text (codes "na") t || is_text (codes "rw1") t || is_text (codes "w1") t

unfoldable pub is_hw_word : RdlToken → Bool
is_hw_word t = is_text (codes "rw") t || is_text (codes "wr") t || is_text (codes "r") t || is_text (codes "w") t || is_text (codes "na") t

unfoldable pub is_onread_word : RdlToken → Bool
is_onread_word t = is_text (codes "rclr") t || is_text (codes "rset") t

unfoldable pub is_onwrite_word : RdlToken → Bool
is_onwrite_word t = is_text (codes "woset") t || is_text (codes "woclr") t || is_text (codes "wot") t || is_text (codes "wzs") t || is_text (codes "wzc") t || is_text (codes "wzt") t || is_text (codes "wclr") t || is_text (codes "wset") t

unfoldable pub is_precedence_word : RdlToken → Bool
is_precedence_word t = is_text (codes "sw") t || is_text (codes "hw") t

unfoldable pub is_regalign_word : RdlToken → Bool
is_regalign_word t = is_text (codes "regalign") t

abbrev pub is_reg_width : ℕ → Bool
is_reg_width n = n == 8 || n == 16 || n == 32 || n == 64 || n == 128

abbrev pub is_access_width : ℕ → Bool
is_access_width n = n == 8 || n == 16 || n == 32

-- the value is one of the form; a reference only where one may stand
abbrev pub takes : Bool → Form → RdlValue → Bool
takes referable form.Text v = is_string v
takes referable form.Regalign v = is_word is_regalign_word (word_of v)
takes referable form.True v = is_true v
takes referable form.RegWidth v = is_number is_reg_width v
takes referable form.AccessWidth v = is_number is_access_width v
takes referable form.Name v = is_some (word_of v)
takes referable form.FieldWidth v = is_number (λ n. nat_le 1 n && nat_le n 32) v
takes referable form.Number v = is_number (λ n. true) v
takes referable form.Step v = is_number (λ n. nat_le 1 n) v
takes referable form.Sw v = is_word is_sw_word (word_of v)
takes referable form.Hw v = is_word is_hw_word (word_of v)
takes referable form.OnRead v = is_word is_onread_word (word_of v)
takes referable form.OnWrite v = is_word is_onwrite_word (word_of v)
takes referable form.Precedence v = is_word is_precedence_word (word_of v)
takes referable form.Flag v = is_flag v
takes referable form.FlagOrBit v = is_flag v || (referable && is_some (bit_reference v))
takes referable form.Whole v = referable && is_some (whole_reference v)

-- what no value means: `true`, where the property takes that
abbrev pub takes_none : Form → Bool
takes_none form.True = true
takes_none form.Flag = true
takes_none form.FlagOrBit = true
takes_none _ = false

abbrev pub takes_assigned : Bool → Form → Option RdlAssigned → Bool
takes_assigned referable form None = takes_none form
takes_assigned referable form (Some a) = takes referable form a.value

-- a value that the property doesn't take; a name that is no property's is refused elsewhere
abbrev pub is_misvalued : Bool → Option Row → Option RdlAssigned → Bool
is_misvalued referable None v = false
is_misvalued referable (Some r) v = not (takes_assigned referable r.form v)

-- ---- the entries of an enumeration: their names and descriptions are strings

abbrev pub is_miswritten : Option Row → Option RdlAssigned → Bool
is_miswritten None v = false
is_miswritten (Some r) v = is_label r.property && not (takes_assigned false r.form v)

abbrev pub miswritten_props : List RdlEntryProp → List Place
miswritten_props [] = []
miswritten_props (x ∷ xs) = place_if (is_miswritten (row_of x.prop.name.text) x.prop.value) x.prop.name.place ++ miswritten_props xs

abbrev pub miswritten_body : Option RdlEntryBody → List Place
miswritten_body None = []
miswritten_body (Some b) = miswritten_props b.props

abbrev pub miswritten : List RdlEntry → List Place
miswritten [] = []
miswritten (e ∷ es) = miswritten_body e.body ++ miswritten es

-- ---- instances

-- `[n]`: no element or no bit; `[hi:lo]`: on something other than a field, or upside down
abbrev pub is_misspanned : Bool → ℕ → Option RdlMarked → Bool
is_misspanned of_field first None = first == 0
is_misspanned of_field first (Some m) = not of_field || nat_lt first m.number.value

abbrev pub is_misranged : Bool → Option RdlRange → Bool
is_misranged of_field None = false
is_misranged of_field (Some r) = is_misspanned of_field r.first.value r.second

abbrev pub is_zero : Option RdlMarked → Bool
is_zero None = false
is_zero (Some m) = m.number.value == 0

-- a field has no address, stride or alignment; no instance has both an address and an alignment; only an array has a stride
abbrev pub is_mislaid : Bool → RdlInst → Bool
is_mislaid of_field i = (is_some i.address && is_some i.alignment) || (of_field && (is_some i.address || is_some i.stride || is_some i.alignment)) || (is_some i.stride && is_none i.range)

abbrev pub misshaped : Bool → RdlInst → List Place
misshaped of_field i = place_if (is_misranged of_field i.range || is_mislaid of_field i || is_zero i.stride || is_zero i.alignment) i.name.place

abbrev pub misshaped_next : Bool → List RdlNextInst → List Place
misshaped_next of_field [] = []
misshaped_next of_field (n ∷ ns) = misshaped of_field n.inst ++ misshaped_next of_field ns

abbrev pub misshaped_all : Bool → RdlInsts → List Place
misshaped_all of_field is = misshaped of_field is.first ++ misshaped_next of_field is.more

abbrev pub misshaped_any : Bool → Option RdlInsts → List Place
misshaped_any of_field None = []
misshaped_any of_field (Some is) = misshaped_all of_field is

abbrev pub misshaped_use : RdlInsts → Option Component → List Place
misshaped_use is None = []
misshaped_use is (Some c) = misshaped_all (is_field (kind_of c)) is

-- ---- of one item of a body, with these items before it

abbrev pub misvalued_by : Chain → List RdlItem → RdlItem-F RdlItem RdlDef → List Place
misvalued_by outer before (RdlItem-F.Def d) = misshaped_any (is_field (body_of (out-RdlDef d).kind)) (out-RdlDef d).insts
misvalued_by outer before (RdlItem-F.Use u) = misshaped_use u.insts (type_of (outer ++ before ∷ []) u.name.text)
misvalued_by outer before (RdlItem-F.Default word prop semi) = place_if (is_misvalued false (row_of prop.name.text) prop.value) word.place
misvalued_by outer before (RdlItem-F.Prop prop semi) = place_if (is_misvalued false (row_of prop.name.text) prop.value) prop.name.place
misvalued_by outer before (RdlItem-F.Dynamic path arrow prop semi) = place_if (is_misvalued true (row_of prop.name.text) prop.value) path.first.name.place
misvalued_by outer before (RdlItem-F.Enum e) = miswritten e.entries

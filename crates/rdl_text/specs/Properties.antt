-- The table of properties (SystemRDL 2.0, clauses 5.2 and 9 to 13): which components have them, and what their values may be.
use Rattle.std.specs.Prelude.{ℕ, if◌then◌else◌, List, [], ◌∷◌, Option, Some, None, bytes_eq, codes}
use Rattle.rdl_text.specs.declared.property.Property.{Property}
use Rattle.rdl_text.specs.declared.property.Property.TheVariants as p
use Rattle.rdl_text.specs.declared.property.Owner.{Owner}
use Rattle.rdl_text.specs.declared.property.Owner.TheVariants as of
use Rattle.rdl_text.specs.declared.property.Form.{Form}
use Rattle.rdl_text.specs.declared.property.Form.TheVariants as form
use Rattle.rdl_text.specs.declared.property.Row.{Row}
use Rattle.rdl_text.specs.Lists.{or_else}

pub record Named : Type 0 where
  pub word : List ℕ
  pub row : Row

abbrev pub row : List ℕ → Property → Owner → Form → Named
row word property owner form = record { word = word; row = record { property = property; owner = owner; form = form } }

-- of any component, of an address map and of a register
abbrev pub common_rows : List Named
common_rows =
    row (codes "name") p.Name of.All form.Text
    ∷ row (codes "desc") p.Desc of.All form.Text
    ∷ row (codes "addressing") p.Addressing of.Addrmap form.Regalign
    ∷ row (codes "lsb0") p.Lsb0 of.Addrmap form.True
    ∷ row (codes "regwidth") p.Regwidth of.Reg form.RegWidth
    ∷ row (codes "accesswidth") p.Accesswidth of.Reg form.AccessWidth ∷ []

-- of a field: its place, and what software does to it
abbrev pub access_rows : List Named
access_rows =
    row (codes "encode") p.Encode of.Field form.Name
    ∷ row (codes "fieldwidth") p.Fieldwidth of.Field form.FieldWidth
    ∷ row (codes "reset") p.Reset of.Field form.Number
    ∷ row (codes "sw") p.Sw of.Field form.Sw
    ∷ row (codes "hw") p.Hw of.Field form.Hw
    ∷ row (codes "onread") p.Onread of.Field form.OnRead
    ∷ row (codes "rclr") p.Onread of.Field form.Flag
    ∷ row (codes "rset") p.Onread of.Field form.Flag
    ∷ row (codes "onwrite") p.Onwrite of.Field form.OnWrite
    ∷ row (codes "woclr") p.Onwrite of.Field form.Flag
    ∷ row (codes "woset") p.Onwrite of.Field form.Flag
    ∷ row (codes "precedence") p.Precedence of.Field form.Precedence
    ∷ row (codes "singlepulse") p.Singlepulse of.Field form.Flag ∷ []

-- of a field: what it shows to hardware, and what hardware does to it
abbrev pub hardware_rows : List Named
hardware_rows =
    row (codes "swmod") p.Swmod of.Field form.Flag
    ∷ row (codes "swacc") p.Swacc of.Field form.Flag
    ∷ row (codes "anded") p.Anded of.Field form.Flag
    ∷ row (codes "ored") p.Ored of.Field form.Flag
    ∷ row (codes "xored") p.Xored of.Field form.Flag
    ∷ row (codes "we") p.We of.Field form.FlagOrBit
    ∷ row (codes "wel") p.Wel of.Field form.FlagOrBit
    ∷ row (codes "hwset") p.Hwset of.Field form.FlagOrBit
    ∷ row (codes "hwclr") p.Hwclr of.Field form.FlagOrBit
    ∷ row (codes "swwe") p.Swwe of.Field form.FlagOrBit
    ∷ row (codes "swwel") p.Swwel of.Field form.FlagOrBit
    ∷ row (codes "hwenable") p.Hwenable of.Field form.Whole
    ∷ row (codes "hwmask") p.Hwmask of.Field form.Whole ∷ []

-- of a field that counts or interrupts
abbrev pub counting_rows : List Named
counting_rows =
    row (codes "counter") p.Counter of.Field form.Flag
    ∷ row (codes "incrsaturate") p.Incrsaturate of.Field form.Flag
    ∷ row (codes "decrsaturate") p.Decrsaturate of.Field form.Flag
    ∷ row (codes "overflow") p.Overflow of.Field form.Flag
    ∷ row (codes "underflow") p.Underflow of.Field form.Flag
    ∷ row (codes "incr") p.Incr of.Field form.FlagOrBit
    ∷ row (codes "decr") p.Decr of.Field form.FlagOrBit
    ∷ row (codes "incrvalue") p.Incrvalue of.Field form.Step
    ∷ row (codes "decrvalue") p.Decrvalue of.Field form.Step
    ∷ row (codes "intr") p.Intr of.Field form.Flag
    ∷ row (codes "sticky") p.Sticky of.Field form.Flag
    ∷ row (codes "stickybit") p.Stickybit of.Field form.Flag
    ∷ row (codes "enable") p.Enable of.Field form.Whole
    ∷ row (codes "mask") p.Mask of.Field form.Whole ∷ []

-- the row where the name is this word
abbrev pub row_if : List ℕ → List ℕ → Row → Option Row
row_if name word row = if bytes_eq name word then Some row else None

-- the first of the rows that has the name
abbrev pub row_among : List ℕ → List Named → Option Row
row_among name [] = None
row_among name (n ∷ ns) = or_else (row_if name n.word n.row) (row_among name ns)

unfoldable pub row_of : List ℕ → Option Row
row_of name = or_else (row_among name common_rows) (or_else (row_among name access_rows) (or_else (row_among name hardware_rows) (row_among name counting_rows)))

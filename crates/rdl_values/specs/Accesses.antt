-- What software and hardware may do to a field, by its effective properties (SystemRDL 2.0, clause 9: `sw`, `hw`, `onread`,
-- `onwrite` and `precedence`). Without them both may read and write it, reads have no effect, a write is taken as it is, and
-- software goes first.
use Rattle.std.specs.Prelude.{Bool, true, false, not, ◌&&◌, ◌||◌, if◌then◌else◌, Option, Some, None, codes}
use Rattle.std.specs.Option.{option_and_then}
use Rattle.field_policies.specs.declared.policy.ReadEffect.{ReadEffect}
use Rattle.field_policies.specs.declared.policy.ReadEffect.TheVariants as read
use Rattle.field_policies.specs.declared.policy.WriteEffect.{WriteEffect}
use Rattle.field_policies.specs.declared.policy.WriteEffect.TheVariants as write
use Rattle.rdl_tree.specs.declared.token.RdlToken.{RdlToken}
use Rattle.rdl_tree.specs.declared.tree.RdlAssigned.{RdlAssigned}
use Rattle.rdl_tree.specs.declared.tree.RdlProp.{RdlProp}
use Rattle.rdl_tree.specs.Tree.{is_text}
use Rattle.rdl_text.specs.declared.property.Property.{Property}
use Rattle.rdl_text.specs.declared.property.Property.TheVariants as p
use Rattle.rdl_text.specs.Forms.{word_of}
use Rattle.rdl_values.specs.declared.access.SwAccess.{SwAccess}
use Rattle.rdl_values.specs.declared.access.HwAccess.{HwAccess}
use Rattle.rdl_values.specs.OneFrame.{Trail}
use Rattle.rdl_values.specs.Values.{assigned_at, is_set}

abbrev pub word_in : RdlAssigned → Option RdlToken
word_in a = word_of a.value

abbrev pub word_given : RdlProp → Option RdlToken
word_given prop = option_and_then (λ a. word_in a) prop.value

abbrev pub word_at : Trail → Property → Option RdlToken
word_at t property = option_and_then word_given (assigned_at t property)

-- ---- sw: rw, wr, r, w, na, rw1, w1

unfoldable pub sw_word : RdlToken → SwAccess
sw_word t = record {
  readable = not (is_text (codes "w") t) && not (is_text (codes "na") t) && not (is_text (codes "w1") t);
  writable = not (is_text (codes "r") t) && not (is_text (codes "na") t);
  once = is_text (codes "rw1") t || is_text (codes "w1") t;
}

abbrev pub sw_by : Option RdlToken → SwAccess
sw_by None = record { readable = true; writable = true; once = false }
sw_by (Some t) = sw_word t

abbrev pub sw_at : Trail → SwAccess
sw_at t = sw_by (word_at t p.Sw)

-- ---- hw: rw, wr, r, w, na

unfoldable pub hw_word : RdlToken → HwAccess
hw_word t = record {
  reads = not (is_text (codes "w") t) && not (is_text (codes "na") t);
  writes = not (is_text (codes "r") t) && not (is_text (codes "na") t);
}

abbrev pub hw_by : Option RdlToken → HwAccess
hw_by None = record { reads = true; writes = true }
hw_by (Some t) = hw_word t

abbrev pub hw_at : Trail → HwAccess
hw_at t = hw_by (word_at t p.Hw)

-- ---- precedence: sw, hw

unfoldable pub is_hw_first : RdlToken → Bool
is_hw_first t = is_text (codes "hw") t

abbrev pub hw_first_by : Option RdlToken → Bool
hw_first_by None = false
hw_first_by (Some t) = is_hw_first t

abbrev pub hw_first_at : Trail → Bool
hw_first_at t = hw_first_by (word_at t p.Precedence)

-- ---- onread, by its word, or by the name of `rclr` and `rset`; `false` gives none

unfoldable pub read_word : RdlToken → ReadEffect
read_word t = if is_text (codes "rclr") t then read.Clear else if is_text (codes "rset") t then read.Set else read.Keep

abbrev pub read_by : RdlToken → Option RdlToken → ReadEffect
read_by name None = read_word name
read_by name (Some t) = read_word t

abbrev pub read_of : RdlProp → ReadEffect
read_of prop = if is_set (Some prop) then read_by prop.name (word_given prop) else read.Keep

abbrev pub read_given : Option RdlProp → ReadEffect
read_given None = read.Keep
read_given (Some prop) = read_of prop

abbrev pub read_at : Trail → ReadEffect
read_at t = read_given (assigned_at t p.Onread)

-- ---- onwrite, by its word, or by the name of `woclr` and `woset`; `false` gives none

unfoldable pub write_word : RdlToken → WriteEffect
write_word t =
    if is_text (codes "woset") t then write.OneSet else if is_text (codes "woclr") t then write.OneClear
    else if is_text (codes "wot") t then write.OneToggle else if is_text (codes "wzs") t then write.ZeroSet
    else if is_text (codes "wzc") t then write.ZeroClear else if is_text (codes "wzt") t then write.ZeroToggle
    else if is_text (codes "wclr") t then write.Clear else if is_text (codes "wset") t then write.Set else write.AsIs

abbrev pub write_by : RdlToken → Option RdlToken → WriteEffect
write_by name None = write_word name
write_by name (Some t) = write_word t

abbrev pub write_of : RdlProp → WriteEffect
write_of prop = if is_set (Some prop) then write_by prop.name (word_given prop) else write.AsIs

abbrev pub write_given : Option RdlProp → WriteEffect
write_given None = write.AsIs
write_given (Some prop) = write_of prop

abbrev pub write_at : Trail → WriteEffect
write_at t = write_given (assigned_at t p.Onwrite)

-- Field access policies (IEEE 1800.2, register layer, the predefined access policies of a field).
use Rattle.std.specs.Prelude.{◌≡◌, Bool, true, false, not, ◌||◌, ◌&&◌, if◌then◌else◌, map, List, [], ◌∷◌}
use Rattle.field_policies.specs.declared.policy.Policy.{Policy}
use Rattle.field_policies.specs.declared.policy.Policy.TheVariants.{RO, RC, RS, RW, WRC, WRS, WC, WCRS, WS, WSRC, W1C, W1CRS, W1S, W1SRC, W1T, W0C, W0CRS, W0S, W0SRC, W0T, W1, WO, WOC, WOS, WO1}
use Rattle.field_policies.specs.declared.policy.PolicyRow.{PolicyRow}
use Rattle.field_policies.specs.declared.policy.ReadEffect.{ReadEffect}
use Rattle.field_policies.specs.declared.policy.ReadEffect.TheVariants as read
use Rattle.field_policies.specs.declared.policy.WriteEffect.{WriteEffect}
use Rattle.field_policies.specs.declared.policy.WriteEffect.TheVariants as write
use Rattle.field_policies.specs.declared.field.Field.{Field}
use Rattle.bit_base.specs.Operators.{differ}

-- what a write makes of a bit, from its value and the written bit (SystemRDL 2.0, clause 9, `onwrite`)
abbrev pub write_bit : WriteEffect → Bool → Bool → Bool
write_bit write.AsIs value written = written
write_bit write.OneSet value written = value || written
write_bit write.OneClear value written = value && not written
write_bit write.OneToggle value written = differ value written
write_bit write.ZeroSet value written = value || not written
write_bit write.ZeroClear value written = value && written
write_bit write.ZeroToggle value written = not (differ value written)
write_bit write.Clear value written = false
write_bit write.Set value written = true

-- what a read makes of a bit (SystemRDL 2.0, clause 9, `onread`)
abbrev pub read_bit : ReadEffect → Bool → Bool
read_bit read.Keep value = value
read_bit read.Clear value = false
read_bit read.Set value = true

-- software reads the field and doesn't write it
abbrev pub read_only : Policy → ReadEffect → PolicyRow
read_only p r = record { policy = p; readable = true; writable = false; once = false; read = r; write = write.AsIs }

-- software reads and writes it
abbrev pub read_write : Policy → WriteEffect → ReadEffect → PolicyRow
read_write p w r = record { policy = p; readable = true; writable = true; once = false; read = r; write = w }

-- software writes it and doesn't read it
abbrev pub write_only : Policy → WriteEffect → PolicyRow
write_only p w = record { policy = p; readable = false; writable = true; once = false; read = read.Keep; write = w }

-- software writes it as is, the first time alone
abbrev pub written_once : Policy → Bool → PolicyRow
written_once p readable = record { policy = p; readable = readable; writable = true; once = true; read = read.Keep; write = write.AsIs }

-- the row of each name
abbrev pub row_of : Policy → PolicyRow
row_of RO = read_only RO read.Keep
row_of RC = read_only RC read.Clear
row_of RS = read_only RS read.Set
row_of RW = read_write RW write.AsIs read.Keep
row_of WRC = read_write WRC write.AsIs read.Clear
row_of WRS = read_write WRS write.AsIs read.Set
row_of WC = read_write WC write.Clear read.Keep
row_of WCRS = read_write WCRS write.Clear read.Set
row_of WS = read_write WS write.Set read.Keep
row_of WSRC = read_write WSRC write.Set read.Clear
row_of W1C = read_write W1C write.OneClear read.Keep
row_of W1CRS = read_write W1CRS write.OneClear read.Set
row_of W1S = read_write W1S write.OneSet read.Keep
row_of W1SRC = read_write W1SRC write.OneSet read.Clear
row_of W1T = read_write W1T write.OneToggle read.Keep
row_of W0C = read_write W0C write.ZeroClear read.Keep
row_of W0CRS = read_write W0CRS write.ZeroClear read.Set
row_of W0S = read_write W0S write.ZeroSet read.Keep
row_of W0SRC = read_write W0SRC write.ZeroSet read.Clear
row_of W0T = read_write W0T write.ZeroToggle read.Keep
row_of W1 = written_once W1 true
row_of WO = write_only WO write.AsIs
row_of WOC = write_only WOC write.Clear
row_of WOS = write_only WOS write.Set
row_of WO1 = written_once WO1 false

-- every name, in the order of the table
abbrev pub policies : List Policy
policies = RO ∷ RC ∷ RS ∷ RW ∷ WRC ∷ WRS ∷ WC ∷ WCRS ∷ WS ∷ WSRC ∷ W1C ∷ W1CRS ∷ W1S ∷ W1SRC ∷ W1T ∷ W0C ∷ W0CRS ∷ W0S ∷ W0SRC ∷ W0T ∷ W1 ∷ WO ∷ WOC ∷ WOS ∷ WO1 ∷ []

-- the table: each name's row once
abbrev pub all_rows : List PolicyRow
all_rows = map row_of policies

-- a field has a row: what can't happen to the field isn't compared
pub record HasRow (f : Field) (r : PolicyRow) : Type 0 where
  pub readable : f.readable ≡ r.readable
  pub writable : f.writable ≡ r.writable
  pub once : f.writable ≡ true → f.once ≡ r.once
  pub write : f.writable ≡ true → f.write ≡ r.write
  pub read : f.readable ≡ true → f.read ≡ r.read

-- a field has the name whose row it has
abbrev pub HasPolicy : Field → Policy → Type 0
HasPolicy f p = HasRow f (row_of p)

-- a bit after a write under the policy, and after a read; one that software can't write stays
abbrev pub written_bit : Policy → Bool → Bool → Bool
written_bit p value written = if (row_of p).writable then write_bit (row_of p).write value written else value

abbrev pub after_read_bit : Policy → Bool → Bool
after_read_bit p value = read_bit (row_of p).read value

-- the two policies do the same to a field of one bit
pub record DoTheSame (p q : Policy) : Type 0 where
  pub readable : (row_of p).readable ≡ (row_of q).readable
  pub writable : (row_of p).writable ≡ (row_of q).writable
  pub once : (row_of p).once ≡ (row_of q).once
  pub write : (value written : Bool) → written_bit p value written ≡ written_bit q value written
  pub read : (value : Bool) → after_read_bit p value ≡ after_read_bit q value

-- then they are one
abbrev pub NamesDiffer : Type 0
NamesDiffer = (p q : Policy) → DoTheSame p q → p ≡ q

-- The numbers of a field's hardware inputs, behind those of the fields before it: one after the other in the order of `InSignal`.
use Rattle.std.specs.Prelude.{ℕ, ◌+◌, Bool, true, false, Option, Some, None}
use Rattle.rdl_fields.specs.declared.named.Inputs.{Inputs}
use Rattle.rdl_fields.specs.declared.named.NamedField.{NamedField}
use Rattle.rdl_map.specs.declared.signal.InputNumbers.{InputNumbers}

abbrev pub count_if : Bool → ℕ
count_if true = 1
count_if false = 0

abbrev pub number_if : Bool → ℕ → Option ℕ
number_if true n = Some n
number_if false n = None

abbrev pub numbers_from : ℕ → Inputs → InputNumbers
numbers_from base i = record {
  data_in = number_if i.has_data base;
  we = number_if i.we (base + count_if i.has_data);
  wel = number_if i.wel (base + count_if i.has_data + count_if i.we);
  hwset = number_if i.hwset (base + count_if i.has_data + count_if i.we + count_if i.wel);
  hwclr = number_if i.hwclr (base + count_if i.has_data + count_if i.we + count_if i.wel + count_if i.hwset);
  swwe = number_if i.swwe (base + count_if i.has_data + count_if i.we + count_if i.wel + count_if i.hwset + count_if i.hwclr);
  swwel = number_if i.swwel (base + count_if i.has_data + count_if i.we + count_if i.wel + count_if i.hwset + count_if i.hwclr + count_if i.swwe);
  incr = number_if i.incr (base + count_if i.has_data + count_if i.we + count_if i.wel + count_if i.hwset + count_if i.hwclr + count_if i.swwe + count_if i.swwel);
  decr = number_if i.decr (base + count_if i.has_data + count_if i.we + count_if i.wel + count_if i.hwset + count_if i.hwclr + count_if i.swwe + count_if i.swwel + count_if i.incr);
}

-- how many inputs a field has
abbrev pub count_of : Inputs → ℕ
count_of i =
    count_if i.has_data + count_if i.we + count_if i.wel + count_if i.hwset + count_if i.hwclr + count_if i.swwe + count_if i.swwel + count_if i.incr + count_if i.decr

abbrev pub count_at : NamedField → ℕ
count_at f = count_of f.inputs

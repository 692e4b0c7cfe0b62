-- The hardware inputs of fields, field by field: the data, and then those of the properties that are `true`.
use Rattle.std.specs.Prelude.{ℕ, ◌+◌, Bool, true, false, List, [], ◌∷◌, ◌++◌, map}
use Rattle.field_policies.specs.declared.signal.HwInput.{HwInput}
use Rattle.field_policies.specs.declared.signal.InSignal.{InSignal}
use Rattle.field_policies.specs.declared.signal.InSignal.TheVariants as signal
use Rattle.field_policies.specs.Maps.{input_width}
use Rattle.rdl_fields.specs.declared.named.Inputs.{Inputs}
use Rattle.rdl_fields.specs.declared.named.NamedField.{NamedField}

abbrev pub signal_if : Bool → InSignal → List InSignal
signal_if true s = s ∷ []
signal_if false s = []

abbrev pub signals_of : Inputs → List InSignal
signals_of i =
    signal_if i.has_data signal.Data ++ signal_if i.we signal.We ++ signal_if i.wel signal.Wel ++ signal_if i.hwset signal.HwSet ++ signal_if i.hwclr signal.HwClr
    ++ signal_if i.swwe signal.SwWe ++ signal_if i.swwel signal.SwWel ++ signal_if i.incr signal.Incr ++ signal_if i.decr signal.Decr

-- an input of the field of a number
abbrev pub input_of : ℕ → ℕ → InSignal → HwInput
input_of number width s = record { field = number; signal = s; width = input_width s width }

abbrev pub own_inputs : ℕ → NamedField → List HwInput
own_inputs number f = map (input_of number f.spot.width) (signals_of f.inputs)

abbrev pub inputs_from : ℕ → List NamedField → List HwInput
inputs_from number [] = []
inputs_from number (f ∷ fs) = own_inputs number f ++ inputs_from (number + 1) fs

abbrev pub inputs_of : List NamedField → List HwInput
inputs_of fields = inputs_from 0 fields

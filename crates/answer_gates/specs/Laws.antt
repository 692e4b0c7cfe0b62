-- The laws that the answer's words are the register machine's, field by field.
use Rattle.std.specs.Prelude.{◌≡◌, ℕ, ◌+◌, ◌≤◌, Bool, false, not, ◌&&◌, List, Some, map, replicate, slice_get, slice_index_or}
use Rattle.std.specs.List.{range_with_len}
use Rattle.bit_base.specs.Numbers.{low_bits}
use Rattle.field_policies.specs.declared.field.Field.{Field}
use Rattle.field_policies.specs.Bits.{any_below}
use Rattle.field_policies.specs.Expressions.{value_of}
use Rattle.reg_machine.specs.Steps.{Edge, reads}
use Rattle.reg_machine.specs.Machines.{shows_one, hides}
use Rattle.answer_gates.specs.Answers.{joined}

-- the bits of the bus word at which some field below this number shows a 1, and hides what it is
abbrev pub shown_below : Edge → List Bool → ℕ → ℕ → List Bool
shown_below e known bus n = map (λ j. any_below n (shows_one e known j)) (range_with_len 0 bus)

abbrev pub hidden_below : Edge → List Bool → ℕ → ℕ → List Bool
hidden_below e known bus n = map (λ j. any_below n (hides e known j)) (range_with_len 0 bus)

abbrev pub ShownAreMachines : Type 0
ShownAreMachines = (e : Edge) (known : List Bool) (bus n : ℕ) (f : Field) → slice_get e.view.fields n ≡ Some f → f.lsb + f.width ≤ bus
    → joined f.lsb (shown_below e known bus n) (map (λ x. x && ((f.readable && reads e f) && slice_index_or known n false)) (low_bits f.width (value_of e.view.values e.view.hw n f))) ≡ shown_below e known bus (n + 1)

abbrev pub HiddenAreMachines : Type 0
HiddenAreMachines = (e : Edge) (known : List Bool) (bus n : ℕ) (f : Field) → slice_get e.view.fields n ≡ Some f → f.lsb + f.width ≤ bus
    → joined f.lsb (hidden_below e known bus n) (replicate f.width ((f.readable && reads e f) && not (slice_index_or known n false))) ≡ hidden_below e known bus (n + 1)

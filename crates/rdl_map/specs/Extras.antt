-- Counters and interrupts by numbers. A register's interrupt fields are listed at its first one.
use Rattle.std.specs.Prelude.{◌≡◌, ℕ, ◌+◌, Bool, true, false, ◌&&◌, ◌==◌, if◌then◌else◌, List, [], ◌∷◌, ◌++◌, Some, None, is_some, ⊤}
use Rattle.field_policies.specs.declared.extra.Counter.{Counter}
use Rattle.field_policies.specs.declared.extra.Intr.{Intr}
use Rattle.field_policies.specs.declared.extra.Extra.{Extra}
use Rattle.field_policies.specs.declared.extra.Extra.TheVariants as extra
use Rattle.rdl_fields.specs.declared.named.NamedCounter.{NamedCounter}
use Rattle.rdl_fields.specs.declared.named.NamedIntr.{NamedIntr}
use Rattle.rdl_fields.specs.declared.named.NamedExtra.{NamedExtra}
use Rattle.rdl_fields.specs.declared.named.NamedExtra.TheVariants as named
use Rattle.rdl_fields.specs.declared.named.NamedField.{NamedField}
use Rattle.rdl_map.specs.declared.signal.InputNumbers.{InputNumbers}
use Rattle.rdl_map.specs.Given.{given_expr, given_gate, small}

abbrev pub is_intr : NamedExtra → Bool
is_intr (named.Intr i) = true
is_intr _ = false

-- an interrupt field of the register at an address
abbrev pub interrupts : ℕ → NamedField → Bool
interrupts register f = is_intr f.extra && f.spot.register == register

abbrev pub number_when : Bool → ℕ → List ℕ
number_when true n = n ∷ []
number_when false n = []

-- their numbers, the first field's being this one
abbrev pub interrupts_from : ℕ → ℕ → List NamedField → List ℕ
interrupts_from number register [] = []
interrupts_from number register (f ∷ fs) = number_when (interrupts register f) number ++ interrupts_from (number + 1) register fs

abbrev pub begins_with : ℕ → List ℕ → Bool
begins_with n [] = false
begins_with n (k ∷ ks) = k == n

-- of the field of a number, in the register at an address
abbrev pub is_first : List NamedField → ℕ → ℕ → Bool
is_first fields number register = begins_with number (interrupts_from 0 register fields)

abbrev pub members_at : List NamedField → ℕ → ℕ → List ℕ
members_at fields number register = if is_first fields number register then interrupts_from 0 register fields else []

pub record IsCounterOf (fields : List NamedField) (numbers : InputNumbers) (g : NamedCounter) (c : Counter) : Type 0 where
  pub incr : given_expr fields numbers.incr g.incr ≡ Some c.incr
  pub decr : given_expr fields numbers.decr g.decr ≡ Some c.decr
  pub up : c.up ≡ g.up
  pub down : c.down ≡ g.down
  pub up_stops : c.up_stops ≡ g.up_stops
  pub down_stops : c.down_stops ≡ g.down_stops

pub record IsIntrOf (fields : List NamedField) (number register : ℕ) (g : NamedIntr) (i : Intr) : Type 0 where
  pub sticky : i.sticky ≡ g.sticky
  pub filter : given_gate fields None None g.filter ≡ Some i.filter
  pub members : i.members.items ≡ members_at fields number register

abbrev pub IsExtraOf : List NamedField → InputNumbers → ℕ → ℕ → NamedExtra → Extra → Type 0
IsExtraOf fields numbers number register named.Plain extra.Plain = ⊤
IsExtraOf fields numbers number register (named.Counter g) (extra.Counter c) = IsCounterOf fields numbers g c
IsExtraOf fields numbers number register (named.Intr g) (extra.Intr i) = IsIntrOf fields number register g i
IsExtraOf fields numbers number register _ _ = ⊥

-- ---- whether all of it can be told: what is named is there, and numbers have 32 bits

abbrev pub is_counter_told : List NamedField → InputNumbers → NamedCounter → Bool
is_counter_told fields numbers g =
    is_some (given_expr fields numbers.incr g.incr) && (is_some (given_expr fields numbers.decr g.decr) && (is_some (small g.up) && is_some (small g.down)))

abbrev pub is_extra_told : List NamedField → InputNumbers → NamedExtra → Bool
is_extra_told fields numbers named.Plain = true
is_extra_told fields numbers (named.Counter g) = is_counter_told fields numbers g
is_extra_told fields numbers (named.Intr g) = is_some (given_gate fields None None g.filter)

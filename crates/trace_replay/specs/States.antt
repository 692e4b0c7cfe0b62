-- The state of a joint run before an edge.
use Rattle.std.specs.Prelude.{◌≡◌, ℕ, ◌<◌, Some, length, slice_get}
use Rattle.apb_rules.specs.declared.phase.Phase.{Phase}
use Rattle.reg_machine.specs.declared.machine.Machine.{Machine}
use Rattle.reg_machine.specs.States.{State}

-- how many edges there were, at most the reset edges' number; the block's register; the machine's
-- state; the phase of the master; how many edges the open transfer waited
pub record JointParts : Type 0 where
  pub edge : ℕ
  pub register : ℕ
  pub machine : State
  pub phase : Phase
  pub waited : ℕ

-- a machine's state of one field of eight bits
pub record OfOneByte (machine : Machine) : Type 0 where
  pub one : length machine.values.items ≡ 1
  pub used : length machine.used.items ≡ 1
  pub known : length machine.known.items ≡ 1
  pub fits : (n value : ℕ) → slice_get machine.values.items n ≡ Some value → value < 256

-- Whether an edge of a trace may come in a state of the joint run.
use Rattle.std.specs.Prelude.{◌≡◌, Bool, true, false, not, List}
use Rattle.apb_rules.specs.Legal.{IsLegalIn}
use Rattle.trace_replay.specs.States.{JointParts}
use Rattle.trace_replay.specs.Joint.{in_reset}
use Rattle.trace_replay.specs.LegalTrace.{plain_style}
use Rattle.trace_replay.specs.Trace.{edge_reset, edge_wires}

-- its reset pin is active at the reset edges alone, no transfer starts there, and the wires are legal in the
-- phase
pub record IsAllowedAt (state : JointParts) (edge : List Bool) : Type 0 where
  pub reset : edge_reset edge ≡ not (in_reset state)
  pub calm : in_reset state ≡ true → (edge_wires edge).select ≡ false
  pub bus : IsLegalIn plain_style 1 state.phase (edge_wires edge)

-- The legal master: what a master may drive over a whole list of edges, told by its transfers
-- (AMBA APB, transfers: write and read transfers, with and without wait states).
use Rattle.std.specs.Prelude.{◌≡◌, ℕ, Bool, true, false, List, [], ◌∷◌, ◌++◌, ⊤, take, drop, map}
use Rattle.std.specs.List.{All}
use Rattle.apb_rules.specs.declared.style.BusStyle.{BusStyle}
use Rattle.apb_rules.specs.declared.wires.BusWires.{BusWires}
use Rattle.apb_rules.specs.declared.phase.Held.{Held}
use Rattle.apb_rules.specs.declared.phase.Phase.{Phase}
use Rattle.apb_rules.specs.declared.event.BusEvent.{BusEvent}
use Rattle.apb_rules.specs.declared.event.BusEvent.TheVariants.{Nothing}
use Rattle.apb_rules.specs.Phases.{held_of, phase_after}
use Rattle.apb_rules.specs.Events.{asked, bus_event}
use Rattle.apb_rules.specs.Legal.{IsIdle, IsSetup, IsAccess, IsLegalIn}

-- one edge of the bus: the master's wires, and PREADY, which is the block's
pub record BusEdge : Type 0 where
  pub wires : BusWires
  pub ready : Bool

module _ (style : BusStyle) (bytes : ℕ) where
  -- a wait state of the transfer whose setup edge drove `held`
  pub record IsWait (held : Held) (edge : BusEdge) : Type 0 where
    pub access : IsAccess style bytes held edge.wires
    pub not_ready : edge.ready ≡ false

  -- the last edge of that transfer
  pub record IsEnd (held : Held) (edge : BusEdge) : Type 0 where
    pub access : IsAccess style bytes held edge.wires
    pub is_ready : edge.ready ≡ true

  -- a row of edges without a transfer and of whole transfers, each a setup edge, wait states and
  -- the end; the list may stop within a transfer
  pub data Traffic : List BusEdge → Type 0 where
    nothing : Traffic []
    idle : (edge : BusEdge) (rest : List BusEdge)
        → IsIdle style bytes edge.wires → Traffic rest → Traffic (edge ∷ rest)
    transfer : (setup : BusEdge) (waits : List BusEdge) (last : BusEdge) (rest : List BusEdge)
        → IsSetup style bytes setup.wires
        → All (IsWait (held_of setup.wires)) waits
        → IsEnd (held_of setup.wires) last
        → Traffic rest
        → Traffic (setup ∷ waits ++ last ∷ rest)
    unfinished : (setup : BusEdge) (waits : List BusEdge)
        → IsSetup style bytes setup.wires
        → All (IsWait (held_of setup.wires)) waits
        → Traffic (setup ∷ waits)

  -- the legal master: no transfer at the first edges, at which the block is reset, then traffic
  pub record IsLegalMaster (resets : ℕ) (edges : List BusEdge) : Type 0 where
    pub at_reset : All (λ edge. IsIdle style bytes edge.wires) (take resets edges)
    pub after_reset : Traffic (drop resets edges)

  -- each edge is legal in the phase that the edges before it leave
  abbrev pub IsLegalFrom : Phase → List BusEdge → Type 0
  IsLegalFrom phase [] = ⊤
  IsLegalFrom phase (edge ∷ rest) =
      IsLegalIn style bytes phase edge.wires × IsLegalFrom (phase_after phase edge.wires edge.ready) rest

  -- what the block is asked over traffic: at the end of each transfer what its setup edge asked,
  -- and nothing elsewhere
  abbrev pub asked_over : {edges : List BusEdge} → Traffic edges → List BusEvent
  asked_over nothing = []
  asked_over (idle edge rest is_idle traffic) = Nothing ∷ asked_over traffic
  asked_over (transfer setup waits last rest is_setup are_waits is_end traffic) =
      Nothing ∷ map (λ wait. Nothing) waits ++ asked setup.wires ∷ asked_over traffic
  asked_over (unfinished setup waits is_setup are_waits) = Nothing ∷ map (λ wait. Nothing) waits

-- the events of a list of edges
abbrev pub events : List BusEdge → List BusEvent
events edges = map (λ edge. bus_event edge.wires edge.ready) edges

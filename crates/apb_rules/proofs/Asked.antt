-- Over whole lists: each transfer of a legal master is answered once, at its end.
use Rattle.std.proofs.Common.{◌≡◌, ℕ, List, [], ◌∷◌, ◌++◌, map, inl, inr, refl}
use Rattle.std.specs.List.{All}
use Rattle.std.proofs.lemmas.Bool.{cases_Bool}
use Rattle.std.proofs.lemmas.List.Elements.{All-head, All-tail}
use Rattle.apb_rules.specs.declared.style.BusStyle.{BusStyle}
use Rattle.apb_rules.specs.declared.wires.BusWires.{BusWires}
use Rattle.apb_rules.specs.declared.phase.Held.{Held}
use Rattle.apb_rules.specs.declared.event.BusEvent.{BusEvent}
use Rattle.apb_rules.specs.declared.event.BusEvent.TheVariants.{Nothing}
use Rattle.apb_rules.specs.Phases.{held_of}
use Rattle.apb_rules.specs.Events.{asked, bus_event}
use Rattle.apb_rules.specs.Legal.{IsIdle, IsSetup, IsAccess}
use Rattle.apb_rules.specs.Master.{BusEdge, IsWait, IsEnd, Traffic, asked_over, events}
use Rattle.apb_rules.proofs.Edges.{strobe_line-same}

cons_event : {a b : BusEvent} {more same : List BusEvent} → a ≡ b → more ≡ same → a ∷ more ≡ b ∷ same
cons_event first rest = λ i. first i ∷ rest i

module _ (style : BusStyle) (bytes : ℕ) where
  idle_event : (edge : BusEdge) → IsIdle style bytes edge.wires → bus_event edge.wires edge.ready ≡ Nothing
  idle_event edge is_idle = rw is_idle.not_selected refl

  setup_event : (edge : BusEdge) → IsSetup style bytes edge.wires → bus_event edge.wires edge.ready ≡ Nothing
  setup_event edge is_setup = rw (is_setup.selected, is_setup.not_enabled) refl

  wait_event : (held : Held) (edge : BusEdge) → IsWait style bytes held edge → bus_event edge.wires edge.ready ≡ Nothing
  wait_event held edge wait = rw (wait.access.selected, wait.access.enabled, wait.not_ready) refl

  same_asked : (setup wires : BusWires) → IsSetup style bytes setup → IsAccess style bytes (held_of setup) wires
      → asked wires ≡ asked setup
  same_asked setup wires is_setup access = elim (cases_Bool setup.write) [
    | inl write ↦ rw (access.same_write, write, access.same_address, access.same_data write, access.same_strobe, strobe_line-same style bytes setup is_setup.lines) refl
    | inr read ↦ rw (access.same_write, read, access.same_address) refl
  ]

  end_event : (setup last : BusEdge) → IsSetup style bytes setup.wires → IsEnd style bytes (held_of setup.wires) last
      → bus_event last.wires last.ready ≡ asked setup.wires
  end_event setup last is_setup is_end =
      rw (is_end.access.selected, is_end.access.enabled, is_end.is_ready) (same_asked setup.wires last.wires is_setup is_end.access)

  wait_events : (held : Held) (waits more : List BusEdge) (later : List BusEvent) → All (IsWait style bytes held) waits
      → events more ≡ later
      → events (waits ++ more) ≡ map (λ (wait : BusEdge). Nothing) waits ++ later
  wait_events held [] more later are_waits same = same
  wait_events held (edge ∷ waits) more later are_waits same =
      cons_event (wait_event held edge (All-head (IsWait style bytes held) edge waits are_waits))
      (wait_events held waits more later (All-tail (IsWait style bytes held) edge waits are_waits) same)

  cut_events : (held : Held) (waits : List BusEdge) → All (IsWait style bytes held) waits
      → events waits ≡ map (λ (wait : BusEdge). Nothing) waits
  cut_events held [] are_waits = refl
  cut_events held (edge ∷ waits) are_waits =
      cons_event (wait_event held edge (All-head (IsWait style bytes held) edge waits are_waits))
      (cut_events held waits (All-tail (IsWait style bytes held) edge waits are_waits))

  pub each_once : (edges : List BusEdge) (traffic : Traffic style bytes edges)
      → events edges ≡ asked_over style bytes traffic
  each_once _ Traffic.nothing = refl
  each_once _ (Traffic.idle edge rest is_idle traffic) =
      cons_event (idle_event edge is_idle) (each_once rest traffic)
  each_once _ (Traffic.transfer setup waits last rest is_setup are_waits is_end traffic) =
      cons_event (setup_event setup is_setup)
      (wait_events _ waits (last ∷ rest) _ are_waits
      (cons_event (end_event setup last is_setup is_end) (each_once rest traffic)))
  each_once _ (Traffic.unfinished setup waits is_setup are_waits) =
      cons_event (setup_event setup is_setup) (cut_events _ waits are_waits)

-- Over whole lists: the traffic of a legal master is what is legal edge by edge.
use Rattle.std.proofs.Common.{◌≡◌, ℕ, true, List, [], ◌∷◌, ◌++◌, inl, inr, subst}
use Rattle.std.specs.List.{All}
use Rattle.std.proofs.lemmas.Bool.{cases_Bool}
use Rattle.std.proofs.lemmas.List.Elements.{All-nil, All-cons, All-head, All-tail}
use Rattle.std.proofs.lemmas.List.{append-nil}
use Rattle.apb_rules.specs.declared.style.BusStyle.{BusStyle}
use Rattle.apb_rules.specs.declared.phase.Held.{Held}
use Rattle.apb_rules.specs.declared.phase.Phase.TheVariants.{Free, Access}
use Rattle.apb_rules.specs.Phases.{held_of, phase_after}
use Rattle.apb_rules.specs.Legal.{IsSetup, IsAccess, IsLegalIn}
use Rattle.apb_rules.specs.Master.{BusEdge, IsWait, IsEnd, Traffic, IsLegalFrom}

module _ (style : BusStyle) (bytes : ℕ) where
  -- what can follow within the access phase of a transfer: wait states, and then the end and more
  -- traffic or the end of the list
  data Open (held : Held) : List BusEdge → Type 0 where
    ended : (waits : List BusEdge) (last : BusEdge) (rest : List BusEdge)
        → All (IsWait style bytes held) waits → IsEnd style bytes held last → Traffic style bytes rest
        → Open held (waits ++ last ∷ rest)
    cut : (waits : List BusEdge) → All (IsWait style bytes held) waits → Open held waits

  wait_first : (held : Held) (edge : BusEdge) (rest : List BusEdge) → IsWait style bytes held edge
      → Open held rest → Open held (edge ∷ rest)
  wait_first held edge rest wait (ended waits last more are_waits is_end traffic) =
      ended (edge ∷ waits) last more (All-cons (IsWait style bytes held) edge waits wait are_waits) is_end traffic
  wait_first held edge rest wait (cut waits are_waits) =
      cut (edge ∷ waits) (All-cons (IsWait style bytes held) edge waits wait are_waits)

  setup_first : (edge : BusEdge) (rest : List BusEdge) → IsSetup style bytes edge.wires
      → Open (held_of edge.wires) rest → Traffic style bytes (edge ∷ rest)
  setup_first edge rest is_setup (ended waits last more are_waits is_end traffic) =
      Traffic.transfer edge waits last more is_setup are_waits is_end traffic
  setup_first edge rest is_setup (cut waits are_waits) = Traffic.unfinished edge waits is_setup are_waits

  -- from edge to edge
  legal_waits : (held : Held) (waits more : List BusEdge) → All (IsWait style bytes held) waits
      → IsLegalFrom style bytes (Access held) more
      → IsLegalFrom style bytes (Access held) (waits ++ more)
  legal_waits held [] more are_waits legal = legal
  legal_waits held (edge ∷ waits) more are_waits legal =
      let wait : IsWait style bytes held edge = All-head (IsWait style bytes held) edge waits are_waits in
      (wait.access, rw wait.not_ready (legal_waits held waits more (All-tail (IsWait style bytes held) edge waits are_waits) legal))

  after_setup : (setup : BusEdge) (rest : List BusEdge) → IsSetup style bytes setup.wires
      → IsLegalFrom style bytes (Access (held_of setup.wires)) rest
      → IsLegalFrom style bytes Free (setup ∷ rest)
  after_setup setup rest is_setup legal = (inr is_setup, after is_setup.selected legal)
    where
      after : setup.wires.select ≡ true → IsLegalFrom style bytes (Access (held_of setup.wires)) rest
          → IsLegalFrom style bytes (phase_after Free setup.wires setup.ready) rest
      after selected legal = rw selected legal

  at_end : (held : Held) (last : BusEdge) (rest : List BusEdge) → IsEnd style bytes held last
      → IsLegalFrom style bytes Free rest → IsLegalFrom style bytes (Access held) (last ∷ rest)
  at_end held last rest is_end legal = (is_end.access, rw is_end.is_ready legal)

  pub traffic_is_legal : (edges : List BusEdge) → Traffic style bytes edges → IsLegalFrom style bytes Free edges
  traffic_is_legal _ Traffic.nothing = tt
  traffic_is_legal _ (Traffic.idle edge rest is_idle traffic) =
      (inl is_idle, rw is_idle.not_selected (traffic_is_legal rest traffic))
  traffic_is_legal _ (Traffic.transfer setup waits last rest is_setup are_waits is_end traffic) =
      after_setup setup (waits ++ last ∷ rest) is_setup
      (legal_waits _ waits (last ∷ rest) are_waits
      (at_end _ last rest is_end (traffic_is_legal rest traffic)))
  traffic_is_legal _ (Traffic.unfinished setup waits is_setup are_waits) =
      after_setup setup waits is_setup
      (subst (IsLegalFrom style bytes (Access (held_of setup.wires))) (append-nil waits)
      (legal_waits _ waits [] are_waits tt))

  abbrev Known : List BusEdge → Type 0
  Known edges = (IsLegalFrom style bytes Free edges → Traffic style bytes edges)
      × ((held : Held) → IsLegalFrom style bytes (Access held) edges → Open held edges)

  free_first : (edge : BusEdge) (rest : List BusEdge) → Known rest
      → IsLegalIn style bytes Free edge.wires
      → IsLegalFrom style bytes (phase_after Free edge.wires edge.ready) rest
      → Traffic style bytes (edge ∷ rest)
  free_first edge rest known (inl is_idle) legal =
      Traffic.idle edge rest is_idle (known.0 (rw is_idle.not_selected at legal))
  free_first edge rest known (inr is_setup) legal =
      setup_first edge rest is_setup (known.1 (held_of edge.wires) (rw is_setup.selected at legal))

  open_first : (held : Held) (edge : BusEdge) (rest : List BusEdge) → Known rest
      → IsAccess style bytes held edge.wires
      → IsLegalFrom style bytes (phase_after (Access held) edge.wires edge.ready) rest
      → Open held (edge ∷ rest)
  open_first held edge rest known access legal = elim (cases_Bool edge.ready) [
    | inl ready ↦ ended [] edge rest (All-nil (IsWait style bytes held)) (record { access = access; is_ready = ready })
        (known.0 (rw ready at legal))
    | inr waits ↦ wait_first held edge rest (record { access = access; not_ready = waits })
        (known.1 held (rw waits at legal))
  ]

  both : (edges : List BusEdge)
      → Known edges
  both [] = (λ legal. Traffic.nothing, λ held legal. cut [] (All-nil (IsWait style bytes held)))
  both (edge ∷ rest) = (λ legal. free_first edge rest (both rest) legal.0 legal.1, λ held legal. open_first held edge rest (both rest) legal.0 legal.1)

  pub legal_is_traffic : (edges : List BusEdge) → IsLegalFrom style bytes Free edges → Traffic style bytes edges
  legal_is_traffic edges = (both edges).0
